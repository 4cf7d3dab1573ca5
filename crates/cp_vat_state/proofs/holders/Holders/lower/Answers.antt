use Rattle.cp_vat_state.proofs.Counting.{same_key}
use Rattle.cp_vat_state.specs.Sought.{key_of}
use Rattle.cp_vat_state.proofs.holders.Holders.lower.Goals as goal

pub returns-in-Some : goal.returns-in-Some
returns-in-Some c = λ s. rw (c.in-Some.is, ← same_key c.in-Some.sought s, ← c.key.ensures) (c.lower.ensures (key_of s))
