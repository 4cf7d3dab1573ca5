use Rattle.std.proofs.Common.{refl}
use Rattle.cp_session.proofs.session.SessionOverCallingSession.forget.Goals as goal

pub returns : goal.returns
returns g c = (c.forget.new.self, c.forget.ensures, refl)
