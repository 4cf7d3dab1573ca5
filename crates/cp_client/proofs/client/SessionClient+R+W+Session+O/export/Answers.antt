use Rattle.std.proofs.Common.{refl}
use Rattle.cp_session.proofs.Deciding.{after_ok, on_err}
use Rattle.cp_client.proofs.client.SessionClient+R+W+Session+O.export.Goals as goal

pub returns-clause-exports : goal.returns-clause-exports
returns-clause-exports g c = after_ok c.add.result c.add.ensures.adds (λ adds. (adds, refl))

pub returns-clause-unexported : goal.returns-clause-unexported
returns-clause-unexported g c = on_err c.add.result c.add.ensures.unadded (λ same. (same, refl))
