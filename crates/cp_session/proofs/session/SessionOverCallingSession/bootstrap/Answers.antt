use Rattle.std.proofs.Common.{refl}
use Rattle.cp_session.proofs.session.SessionOverCallingSession.bootstrap.Goals as goal

pub returns : goal.returns
returns g c = (c.bootstrap.new.self, c.bootstrap.ensures, refl)
