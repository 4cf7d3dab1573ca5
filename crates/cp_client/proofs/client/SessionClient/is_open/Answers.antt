use Rattle.std.proofs.Common.{refl, sym}
use Rattle.std.proofs.lemmas.Bool.{false≢true}
use Rattle.cp_client.specs.Reading.{by_fault, by_end}
use Rattle.cp_client.proofs.client.SessionClient.is_open.Goals as goal

pub returns-in-Some-clause-closed : goal.returns-in-Some-clause-closed
returns-in-Some-clause-closed g c = by_fault c.in-Some.fault (sym c.in-Some.ensures) refl

pub returns-then-not-takes_bytes-clause-closed : goal.returns-then-not-takes_bytes-clause-closed
returns-then-not-takes_bytes-clause-closed g c = by_end (sym c.in_default.ensures) (λ t. false≢true (c.if-not-takes_bytes.ensures.1 t)) refl

pub returns-clause-is_open : goal.returns-clause-is_open
returns-clause-is_open g c = record { no_fault = sym c.in_default.ensures; takes = c.if-not-takes_bytes.ensures.0 refl }
