use Rattle.cp_session.proofs.Timing.{limits_alone}
use Rattle.cp_session.proofs.laws.due_by_limits.Goals as goal

pub returns : goal.returns
returns g c = limits_alone g.O.Servant.kind
