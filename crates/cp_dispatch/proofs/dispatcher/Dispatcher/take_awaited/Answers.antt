use Rattle.std.proofs.Common.{sym}
use Rattle.cp_dispatch.specs.WorkOf.{work_of}
use Rattle.cp_dispatch.proofs.Awaiting.{takes_none}
use Rattle.cp_dispatch.proofs.dispatcher.Dispatcher.take_awaited.Goals as goal

pub returns-in_err-origin : goal.returns-in_err-origin
returns-in_err-origin c =
    rw c.from_residual.ensures
    (λ link. takes_none c.args.ticket (work_of c.args.self.now link) c.remove.new.self (sym c.in_err-origin.ensures.value) c.in_err-origin.ensures.removed)
