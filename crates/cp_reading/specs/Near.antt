-- Words whose bodies lie in their own segments.
use Rattle.std.specs.Prelude.{◌≡◌, ℕ, List, Some, Result, Ok}
use Rattle.cp_words.specs.Word.{pointer_of}
use Rattle.cp_words.specs.declared.pointer.Pointer.{Pointer}
use Rattle.cp_tree.specs.Node.{Node}
use Rattle.cp_reading.specs.Reading.{◌>>=◌, target_by, body_by, kids_at, top}
use Rattle.cp_reading.specs.declared.target.PointerTarget.{PointerTarget}
use Rattle.cp_reading.specs.declared.area.Area.{Area}
use Rattle.cp_words.specs.declared.place.Place.{Place}
use Rattle.cp_reading.specs.declared.fault.TreeFault.{TreeFault}

-- The word at this place leads to this body, whatever else the segments hold.
pub record Near (at : Place) (word : ℕ) (target : PointerTarget) : Type 0 where
  pub pointer : Pointer
  pub says : pointer_of word ≡ Some pointer
  pub has_target : (S : List (List ℕ)) → target_by at S pointer ≡ Ok target

-- what the root's body is read as, within limits of nesting and traversal
abbrev pub root_read : ℕ → ℕ → List (List ℕ) → Area → Result Node TreeFault
root_read nesting traversal S a = body_by top (kids_at nesting S) S traversal a >>= λ x. Ok x.0
