use Rattle.std.proofs.Common.{◌∙◌, inl, inr, sym, arith}
use Rattle.std.proofs.lemmas.Bool.{false≢true}
use Rattle.std.specs.Vec.{vec_len}
use Rattle.net_host.proofs.Deciding.{has_some}
use Rattle.net_host.proofs.hosted_connection.HostedConnection.may_have_bytes.Goals as goal

pub returns-then-is_readable : goal.returns-then-is_readable
returns-then-is_readable g c = (λ t. inl (sym c.if-is_readable.ensures), λ s. c.if-is_readable.true)

pub returns-else-is_readable : goal.returns-else-is_readable
returns-else-is_readable g c =
    let has = has_some c.is_empty.result (vec_len c.args.self.now.rest) c.args.self.now.rest.items c.is_empty.ensures (omega (arith, c.args.self.now.rest.ok.0)) in
    (λ t. inr (has.0 t), λ s. elim s [ inl readable ↦ absurd (false≢true (c.if-is_readable.ensures ∙ readable)) | inr some ↦ has.1 some ])
