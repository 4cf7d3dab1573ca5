use Rattle.std.proofs.Common.{refl}
use Rattle.cp_session.proofs.Deciding.{after_ok, on_err}
use Rattle.cp_client.proofs.client.SessionClient.wake.Goals as goal

pub returns-clause-wakes : goal.returns-clause-wakes
returns-clause-wakes g c = after_ok c.wake.result c.wake.ensures.wakes (λ woken. (woken, refl))

pub returns-clause-unwoken : goal.returns-clause-unwoken
returns-clause-unwoken g c = on_err c.wake.result c.wake.ensures.unwoken (λ same. (same, refl))
