use Rattle.std.proofs.Common.{refl}
use Rattle.cp_session.proofs.endpoint.Endpoint.has_acted.Goals as goal

pub returns : goal.returns
returns c = rw c.stats.ensures refl
