use Rattle.std.proofs.Common.{refl}
use Rattle.cp_dispatch.specs.Work.{is_used, is_dropped}
use Rattle.cp_dispatch.proofs.Working.{after_ok}
use Rattle.cp_dispatch.proofs.dispatcher.Dispatcher.stay.Goals as goal

pub returns-in-InUse : goal.returns-in-InUse
returns-in-InUse c = after_ok c.free.result c.free.ensures (λ freed link. is_used c.in-InUse.is (freed link))

pub returns-in_default : goal.returns-in_default
returns-in_default c = λ link. is_dropped c.in_default.not-InUse refl
