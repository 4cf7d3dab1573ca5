use Rattle.std.proofs.Common.{refl}
use Rattle.cp_session.proofs.Deciding.{err_so}
use Rattle.cp_session.proofs.session.SessionOverDrivenSession.deliver.Goals as goal

pub returns-in_err-deliver-clause-undelivered : goal.returns-in_err-deliver-clause-undelivered
returns-in_err-deliver-clause-undelivered g c = err_so c.from_residual.result refl

pub returns-clause-delivers : goal.returns-clause-delivers
returns-clause-delivers g c = (c.in_ok-deliver.ensures, rw c.stir.ensures refl)
