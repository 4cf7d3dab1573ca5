use Rattle.test_vat.proofs.TwoOrdered as ordered
use Rattle.test_vat.proofs.order.two_leave_in_order.Goals as goal

pub returns-clause-in_order : goal.returns-clause-in_order
returns-clause-in_order c = ordered.two_leave_in_order

pub returns-clause-rising : goal.returns-clause-rising
returns-clause-rising c = ordered.two_rise
