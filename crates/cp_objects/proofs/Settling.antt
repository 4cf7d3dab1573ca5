-- What is handed out of the calls that were settled.
use Rattle.std.proofs.Common.{◌≡◌, ℕ, List, [], Some, None, sym, ap, subst, ◌∙◌}
use Rattle.std.specs.FinMap.{get}
use Rattle.cp_servants.specs.declared.servant.Settled.{Settled}
use Rattle.cp_objects.specs.Counts.{those_in}
use Rattle.cp_objects.specs.Objects.{HandsSettled, ObjectsState, answering, failing, held_by, none_left, was_dropped}

module _ {A : Type 0} (old mid : ObjectsState A) (same : mid ≡ old) (none : old.settled ≡ []) where
  -- there is none
  pub none_handed : HandsSettled None old mid
  none_handed =
      let nothing : HandsSettled None old old = none_left none in subst (λ (k : ObjectsState A). HandsSettled None old k) (sym same) nothing

  -- what a call that was dropped comes to, where the object that owes it holds what it does there
  abbrev failed_in : ℕ → ℕ → List ℕ → ObjectsState A → Settled
  failed_in owner ticket gives_up state = failing ticket (those_in gives_up (held_by owner state))

  -- a call that was dropped fails
  pub dropped_handed : (owner ticket : ℕ) (gives_up : List ℕ) (given : Settled) (new : ObjectsState A) → get mid.pending_answers ticket ≡ Some owner
      → given ≡ failed_in owner ticket gives_up mid → new ≡ answering owner (failed_in owner ticket gives_up mid) mid → HandsSettled (Some given) old new
  dropped_handed owner ticket gives_up given new owed is changed =
      subst (λ (s : Settled). HandsSettled (Some s) old new) (sym (is ∙ ap (failed_in owner ticket gives_up) same)) (
      was_dropped owner ticket gives_up none (ap (λ (k : ObjectsState A). get k.pending_answers ticket) (sym same) ∙ owed)
      (changed ∙ ap (λ (k : ObjectsState A). answering owner (failed_in owner ticket gives_up k) k) same)
      )
