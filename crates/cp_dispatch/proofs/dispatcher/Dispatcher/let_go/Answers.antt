use Rattle.std.proofs.Common.{refl}
use Rattle.cp_dispatch.specs.Work.{others_hold, none_holds}
use Rattle.cp_dispatch.proofs.Working.{after_ok}
use Rattle.cp_dispatch.proofs.dispatcher.Dispatcher.let_go.Goals as goal

pub returns-then-lower : goal.returns-then-lower
returns-then-lower c = λ link. others_hold (c.lower.ensures.others c.if-lower.true) (rw (c.lower.ensures.less c.if-lower.true) refl)

pub returns : goal.returns
returns c =
    after_ok c.free.result c.free.ensures
    (λ freed link. none_holds (c.lower.ensures.last c.if-lower.false) (rw (c.lower.ensures.none c.if-lower.false) at (freed link)))
