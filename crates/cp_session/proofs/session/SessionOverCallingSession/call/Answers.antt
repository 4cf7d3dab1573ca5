use Rattle.std.proofs.Common.{refl}
use Rattle.cp_session.proofs.session.SessionOverCallingSession.call.Goals as goal

pub returns : goal.returns
returns g c = (c.call.new.self, c.call.ensures, refl)
