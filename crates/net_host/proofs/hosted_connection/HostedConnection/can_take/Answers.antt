use Rattle.std.proofs.Common.{refl}
use Rattle.std.proofs.lemmas.Bool.{both_ways, false≢true}
use Rattle.net_host.proofs.hosted_connection.HostedConnection.can_take.Goals as goal

pub returns-then-takes_bytes : goal.returns-then-takes_bytes
returns-then-takes_bytes g c = (λ t. (c.if-takes_bytes.ensures.0 refl, c.may_have_bytes.ensures.0 t), λ s. c.may_have_bytes.ensures.1 s.1)

pub returns-else-takes_bytes : goal.returns-else-takes_bytes
returns-else-takes_bytes g c = (λ t. absurd (both_ways _ c.if-takes_bytes.false t), λ s. absurd (false≢true (c.if-takes_bytes.ensures.1 s.0)))
