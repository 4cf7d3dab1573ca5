use Rattle.std.proofs.lemmas.Result.{IfOk-weaker}
use Rattle.cp_vat_state.proofs.Counting.{same_key}
use Rattle.cp_vat_state.specs.Sought.{key_of}
use Rattle.cp_vat_state.proofs.holders.Holders.raise.Goals as goal

pub returns-in-Some-clause-raised : goal.returns-in-Some-clause-raised
returns-in-Some-clause-raised c =
    IfOk-weaker c.raise.result _ _ (λ _ more s. rw (c.in-Some.is, ← same_key c.in-Some.sought s, ← c.key.ensures) (more (key_of s))) c.raise.ensures.raised
