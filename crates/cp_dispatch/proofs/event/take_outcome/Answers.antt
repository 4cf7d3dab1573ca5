use Rattle.cp_dispatch.specs.Finishing.{has_none}
use Rattle.cp_dispatch.proofs.TakingOut.{taken_out}
use Rattle.cp_dispatch.proofs.event.take_outcome.Goals as goal

pub returns-in_err-place : goal.returns-in_err-place
returns-in_err-place c = rw c.from_residual.ensures (has_none c.in_err-place.ensures.none)

pub returns : goal.returns
returns c =
    let here = c.in_ok-place.ensures in
    rw c.outcome.ensures
    (taken_out c.args.question c.in_ok-place.place c.args.notices.now.items c.in_ok-remove.field-0 here.inside here.first here.found c.in_ok-remove.ensures.value c.in_ok-remove.ensures.items)
