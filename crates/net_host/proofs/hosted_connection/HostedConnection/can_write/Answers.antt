use Rattle.std.proofs.Common.{◌∙◌, refl, sym}
use Rattle.std.proofs.lemmas.Bool.{both_ways, false≢true}
use Rattle.net_host.proofs.Deciding.{has_some}
use Rattle.net_host.proofs.hosted_connection.HostedConnection.can_write.Goals as goal

pub returns-then-is_writable : goal.returns-then-is_writable
returns-then-is_writable g c =
    let has = rw c.outgoing.ensures at (has_some c.is_empty.result _ c.outgoing.result.now c.is_empty.ensures refl) in
    (λ t. (sym c.if-is_writable.ensures, has.0 t), λ s. has.1 s.1)

pub returns-else-is_writable : goal.returns-else-is_writable
returns-else-is_writable g c = (λ t. absurd (both_ways _ c.if-is_writable.false t), λ s. absurd (false≢true (c.if-is_writable.ensures ∙ s.0)))
