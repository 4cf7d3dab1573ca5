use Rattle.std.proofs.Common.{refl}
use Rattle.cp_session.proofs.session.SessionOverCallingSession.promise.Goals as goal

pub returns : goal.returns
returns g c = (c.promise.new.self, c.promise.ensures, refl)
