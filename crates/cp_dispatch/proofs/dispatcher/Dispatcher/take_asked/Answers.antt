use Rattle.std.proofs.Common.{sym}
use Rattle.cp_dispatch.specs.WorkOf.{work_of}
use Rattle.cp_dispatch.proofs.Awaiting.{takes_unasked}
use Rattle.cp_dispatch.proofs.dispatcher.Dispatcher.take_asked.Goals as goal

pub returns-in_err-owner : goal.returns-in_err-owner
returns-in_err-owner c =
    rw c.from_residual.ensures
    (λ link. takes_unasked c.args.question (work_of c.args.self.now link) c.remove.new.self (sym c.in_err-owner.ensures.value) c.in_err-owner.ensures.removed)
