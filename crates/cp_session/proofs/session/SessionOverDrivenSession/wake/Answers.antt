use Rattle.std.proofs.Common.{refl}
use Rattle.cp_session.proofs.Deciding.{err_so}
use Rattle.cp_session.proofs.session.SessionOverDrivenSession.wake.Goals as goal

pub returns-in_err-wake-clause-unwoken : goal.returns-in_err-wake-clause-unwoken
returns-in_err-wake-clause-unwoken g c = err_so c.from_residual.result refl

pub returns-clause-wakes : goal.returns-clause-wakes
returns-clause-wakes g c = (c.in_ok-wake.ensures, rw c.stir.ensures refl)
