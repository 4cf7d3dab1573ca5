use Rattle.test_vat.proofs.Ordered as ordered
use Rattle.test_vat.proofs.order.pipelined_waits_in_order.Goals as goal

pub returns : goal.returns
returns c = ordered.waits_in_order
