use Rattle.cp_session.specs.Progress.{meets}
use Rattle.cp_session.proofs.progress.Progress.tick.Goals as goal

pub returns-in-Some : goal.returns-in-Some
returns-in-Some c = meets c.in-Some.limit c.in-Some.ensures.met c.meet.ensures.told c.meet.ensures.met
