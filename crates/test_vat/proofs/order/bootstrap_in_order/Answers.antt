use Rattle.test_vat.proofs.Ordered as ordered
use Rattle.test_vat.proofs.order.bootstrap_in_order.Goals as goal

pub returns : goal.returns
returns c = ordered.bootstrap_in_order
