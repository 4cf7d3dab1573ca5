use Rattle.std.proofs.Common.{refl}
use Rattle.test_vat.proofs.order.each_has_its_own_promise.Goals as goal

pub returns : goal.returns
returns c turn answer p open_ own = (own.0 p (open_, refl)).0 (open_, refl)
