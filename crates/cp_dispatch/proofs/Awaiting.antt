-- What becomes of calls whose answers are awaited.
use Rattle.std.proofs.Common.{◌≡◌, ℕ, Option, Some, None, refl, ◌∙◌}
use Rattle.std.specs.FinMap.{get, remove}
use Rattle.cp_tables.specs.Table.{Table}
use Rattle.cp_tables.proofs.TableLemmas.{is_remove}
use Rattle.cp_refs.specs.declared.call.Origin.{Origin}
use Rattle.cp_objects.specs.ObjectTable.{ObjectTableKind}
use Rattle.cp_dispatch.specs.Work.{Work, TakesAsked, TakesAwaited, key_of}
use Rattle.cp_dispatch.specs.declared.question_owner.QuestionOwner.{QuestionOwner}
use Rattle.cp_dispatch.specs.Canceling.{Cancels, is_not_owed}

-- a call that isn't awaited is taken out of nothing
pub takes_none : (ticket : ℕ) (old : Work) (awaited : Table Origin) → get old.awaited ticket ≡ None → awaited ≡ remove old.awaited ticket
    → TakesAwaited ticket old None (record old { awaited = awaited })
takes_none ticket old awaited none r = (none, rw (r, ← is_remove old.awaited old.awaited ticket none (λ q h. refl)) refl)

-- a question of no object is taken out of nothing
pub takes_unasked : (question : ℕ) (old : Work) (asked : Table QuestionOwner) → get old.asked question ≡ None → asked ≡ remove old.asked question
    → TakesAsked question old None (record old { asked = asked })
takes_unasked question old asked none r = (none, rw (r, ← is_remove old.asked old.asked question none (λ q h. refl)) refl)

-- what isn't owed is taken out of nothing
pub owes_not : (old : Work) (key : ℕ) (owed : Table ℕ) → get old.owed key ≡ None → owed ≡ remove old.owed key → record old { owed = owed } ≡ old
owes_not old key owed none r = rw (r, ← is_remove old.owed old.owed key none (λ q h. refl)) refl

module _ {H : Type 0} {table : ObjectTableKind H} where
  -- a call that isn't owed is taken out of nothing
  pub cancels_stranger : {given_up : Option Origin} (old : Work) (origin : Origin) (owed : Table ℕ) {objects : H} → given_up ≡ Some origin → get old.owed (key_of origin) ≡ None
      → owed ≡ remove old.owed (key_of origin) → Cancels table given_up old (record old { owed = owed }) objects objects
  cancels_stranger old origin owed is none r = is_not_owed origin is none (owes_not old (key_of origin) owed none r) refl
