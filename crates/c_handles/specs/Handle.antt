-- What a handle of C owns, and what it gives.
use Rattle.std.specs.Prelude.{◌≡◌}
use mathlib.Core.Bool.{Bool, true, false}
use base.Fml.{Fml, ftrue, ffalse}
use denote.RattleType.{RattleType}
use denote.RawPtr.{Ptr}
use Rattle.std.specs.Global.{Global, Box}
use Rattle.std.specs.declared.option.Option.{Option}
use Rattle.std.specs.declared.option.Option.TheVariants.{None, Some}
use Rattle.std.specs.contracts.impls.GlobalAllocator.TheImpl.{ghosts}
use Rattle.std_alloc.specs.Box.Ownership.{box_owns}
use Rattle.c_handles.specs.declared.loose.Loose.{Loose}

-- an open handle owns the object's block, and a closed one nothing
abbrev pub handle_owns : (R : RattleType) → Global → Ptr → Bool → Option R.Denot → Fml
handle_owns R a p true (Some x) = box_owns (ghosts.dealloc_token a) R p x
handle_owns R a p true None = ffalse
handle_owns R a p false (Some x) = ffalse
handle_owns R a p false None = ftrue

module _ {A : Type 0} where
  -- what the loose box holds is what the handle owned
  abbrev pub Took : Option A → Option (Loose A Global) → Type 0
  Took None None = Unit {0}
  Took None (Some b) = ⊥
  Took (Some x) None = ⊥
  Took (Some x) (Some b) = b.value ≡ x

  abbrev pub TookBox : Option A → Option (Box A) → Type 0
  TookBox None None = Unit {0}
  TookBox None (Some b) = ⊥
  TookBox (Some x) None = ⊥
  TookBox (Some x) (Some b) = b.value ≡ x
