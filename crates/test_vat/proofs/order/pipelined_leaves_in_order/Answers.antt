use Rattle.test_vat.proofs.Ordered as ordered
use Rattle.test_vat.proofs.Unordered as unordered
use Rattle.test_vat.proofs.order.pipelined_leaves_in_order.Goals as goal

pub returns-clause-in_order : goal.returns-clause-in_order
returns-clause-in_order c = ordered.leaves_in_order

pub returns-clause-once : goal.returns-clause-once
returns-clause-once c = unordered.goes_once

pub returns-clause-by_ports : goal.returns-clause-by_ports
returns-clause-by_ports c = unordered.goes_by_port

pub returns-clause-none_kept : goal.returns-clause-none_kept
returns-clause-none_kept c = unordered.goes_at_all

pub returns-clause-told : goal.returns-clause-told
returns-clause-told c = unordered.tells
