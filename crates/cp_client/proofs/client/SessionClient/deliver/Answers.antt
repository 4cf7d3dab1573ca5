use Rattle.std.proofs.Common.{refl}
use Rattle.cp_session.proofs.Deciding.{after_ok, on_err}
use Rattle.cp_client.proofs.client.SessionClient.deliver.Goals as goal

pub returns-clause-delivers : goal.returns-clause-delivers
returns-clause-delivers g c = after_ok c.deliver.result c.deliver.ensures.delivers (λ delivered. (delivered, refl))

pub returns-clause-undelivered : goal.returns-clause-undelivered
returns-clause-undelivered g c = on_err c.deliver.result c.deliver.ensures.undelivered (λ same. (same, refl))
