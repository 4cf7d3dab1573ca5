-- Whom a letter is for, once the object is there that it needs.
use Rattle.std.proofs.Common.{◌≡◌, ◌∙◌, ℕ, Option, Some, None, sym, ap, subst}
use Rattle.std.specs.FinMap.{get}
use Rattle.cp_objects.specs.declared.letters.LetterBody.{LetterBody}
use Rattle.cp_objects.specs.Delivering.{Delivers, IsTold, is_for_nobody, is_gone, is_told, needing, receiver_of}
use Rattle.cp_objects.specs.Objects.{ObjectsState}

module _ {A : Type 0} (body : LetterBody) (old mid : ObjectsState A) where
  for_it : (found : Option ℕ) → mid ≡ needing body old → found ≡ receiver_of body mid → receiver_of body (needing body old) ≡ found
  for_it found needs is = ap (λ (k : ObjectsState A). receiver_of body k) (sym needs) ∙ sym is

  pub told_there : (new : ObjectsState A) (number : ℕ) → mid ≡ needing body old → Some number ≡ receiver_of body mid → IsTold number body mid new → Delivers body old new
  told_there new number needs is told =
      is_told number (for_it (Some number) needs is) (subst (λ (k : ObjectsState A). IsTold number body k new) needs told)

  pub told_gone : (number : ℕ) → mid ≡ needing body old → Some number ≡ receiver_of body mid → get mid.members number ≡ None → Delivers body old mid
  told_gone number needs is none =
      is_gone number (for_it (Some number) needs is) (ap (λ (k : ObjectsState A). get k.members number) (sym needs) ∙ none) needs

  pub told_nobody : mid ≡ needing body old → None ≡ receiver_of body mid → Delivers body old mid
  told_nobody needs is = is_for_nobody (for_it None needs is) needs
