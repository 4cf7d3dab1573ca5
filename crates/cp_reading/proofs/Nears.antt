-- Words whose bodies lie in their own segments.
use Rattle.std.proofs.Common.{◌≡◌, ℕ, ◌/◌, ◌%◌, ◌^◌, ◌<◌, ◌==◌, List, Option, Some, Ok, Err, false, slice_index, refl, ap, ◌∙◌, add-zero, arith}
use Rattle.std.proofs.lemmas.Bool.Decides.{nat_tests}
use Rattle.cp_words.specs.Word.{pointer_of, offset_of, high_of, size_of}
use Rattle.cp_words.specs.declared.pointer.Pointer.TheVariants as pointers
use Rattle.cp_words.specs.Targets.{segment}
use Rattle.cp_reading.specs.Near.{Near}
use Rattle.cp_reading.specs.Reading.{◌>>=◌, Kids, start_of, area_by, body_by, pointer_by, word_by}
use Rattle.cp_reading.specs.Visited.{passed, pointers}
use Rattle.cp_reading.specs.declared.target.PointerTarget.{PointerTarget}
use Rattle.cp_words.specs.declared.kind.BodyKind.TheVariants as kinds
use Rattle.cp_reading.specs.declared.area.Area.{Area}
use Rattle.cp_words.specs.declared.place.Place.{Place}
use Rattle.cp_reading.specs.declared.fault.TreeFault.{TreeFault}
use Rattle.cp_reading.proofs.Checks.{target_found}

pub says_null : (w : ℕ) → w ≡ 0 → pointer_of w ≡ Some pointers.Null
unfolding pointer_of
says_null w none = rw none refl

says_struct : (w : ℕ) → 0 < w → w % 4 ≡ 0 → pointer_of w ≡ Some (pointers.Struct (offset_of w) (high_of w % 2 ^ 16) (high_of w / 2 ^ 16))
unfolding pointer_of
says_struct w some kind =
    let other : (w == 0) ≡ false = grind (arith, nat_tests) in
    rw (other, kind) refl

says_list : (w : ℕ) → w % 4 ≡ 1 → pointer_of w ≡ Some (pointers.List (offset_of w) (size_of (high_of w % 8)) (high_of w / 8))
unfolding pointer_of
says_list w kind =
    let other : (w == 0) ≡ false = grind (arith, nat_tests) in
    rw (other, kind) refl

pub near_struct : (at : Place) (w : ℕ) → 0 < w → w % 4 ≡ 0
    → Near at w (record { kind = kinds.Struct (high_of w % 2 ^ 16) (high_of w / 2 ^ 16); segment = at.segment; start = start_of at.word (offset_of w) })
near_struct at w some kind = record { pointer = pointers.Struct (offset_of w) (high_of w % 2 ^ 16) (high_of w / 2 ^ 16); says = says_struct w some kind; has_target = λ S. refl }

pub near_list : (at : Place) (w : ℕ) → w % 4 ≡ 1
    → Near at w (record { kind = kinds.List (size_of (high_of w % 8)) (high_of w / 8); segment = at.segment; start = start_of at.word (offset_of w) })
near_list at w kind = record { pointer = pointers.List (offset_of w) (size_of (high_of w % 8)) (high_of w / 8); says = says_list w kind; has_target = λ S. refl }

-- what is read of such a word
pub near_read : (at : Place) (w : ℕ) (target : PointerTarget) → Near at w target → (kids : Option Kids) (S : List (List ℕ)) (budget : ℕ) → pointer_by at kids S budget (pointer_of w) ≡ (area_by at S target >>= body_by at kids S budget)
near_read at w target n kids S budget = rw n.says (target_found at kids S budget n.pointer target (n.has_target S))

module _ (at : Place) (w : ℕ) (kids : Option Kids) (S : List (List ℕ)) (budget before : ℕ) (stands : slice_index (segment S at.segment) at.word ≡ w) where
  -- a word of zero bits leaves all
  pub null_left : w ≡ 0 → passed pointers before (word_by kids S at.segment at.word budget) ≡ Ok (budget, before)
  null_left none = ap (λ x. passed pointers before (pointer_by at kids S budget (pointer_of x))) stands ∙ ap (λ o. passed pointers before (pointer_by at kids S budget o)) (says_null w none) ∙ rw add-zero refl

  module _ (target : PointerTarget) (near : Near at w target) where
    word_is : word_by kids S at.segment at.word budget ≡ (area_by at S target >>= body_by at kids S budget)
    word_is = ap (λ x. pointer_by at kids S budget (pointer_of x)) stands ∙ near_read at w target near kids S budget

    pub near_fails : (e : TreeFault) → area_by at S target ≡ Err e → passed pointers before (word_by kids S at.segment at.word budget) ≡ Err e
    near_fails e h = ap (passed pointers before) (word_is ∙ ap (λ o. o >>= body_by at kids S budget) h)

    pub near_body : (a : Area) → area_by at S target ≡ Ok a → passed pointers before (word_by kids S at.segment at.word budget) ≡ passed pointers before (body_by at kids S budget a)
    near_body a h = ap (passed pointers before) (word_is ∙ ap (λ o. o >>= body_by at kids S budget) h)
