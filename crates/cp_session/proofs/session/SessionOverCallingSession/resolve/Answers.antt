use Rattle.std.proofs.Common.{refl}
use Rattle.cp_session.proofs.session.SessionOverCallingSession.resolve.Goals as goal

pub returns : goal.returns
returns g c = (c.resolve.new.self, c.resolve.ensures, refl)
