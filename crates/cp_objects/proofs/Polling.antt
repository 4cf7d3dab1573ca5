-- Whether an object is to be polled again, by what a poll gave.
use Rattle.std.proofs.Common.{◌≡◌, ℕ, Bool, true, false, Option, Some, None, refl, subst, sym}
use Rattle.cp_servants.specs.declared.servant.Settled.{Settled}
use Rattle.cp_objects.specs.declared.any_object.AnyObject.{AnyObject}
use Rattle.cp_objects.specs.Objects.{ObjectsState, GoesOn, gave_some, says_more, rests, answering, resting}
use Rattle.cp_objects.specs.ServedObject.{ServedObjectKind}

pub goes_by : {A : Type 0} (kind : ServedObjectKind (AnyObject A) A) (number : ℕ) (object : AnyObject A) (state new : ObjectsState A) (given : Option Settled) (more : Bool)
    → ((settled : Settled) → given ≡ Some settled → new ≡ answering number settled state) → (given ≡ None → more ≡ true → new ≡ state)
    → (given ≡ None → more ≡ false → new ≡ resting number state) → kind.says_more more object → GoesOn kind number object state given new
goes_by {A} kind number object state new (Some given) more gave still rested says =
    subst (λ (k : ObjectsState A). GoesOn kind number object state (Some given) k) (sym (gave given refl)) (gave_some given)
goes_by {A} kind number object state new None true gave still rested says = subst (λ (k : ObjectsState A). GoesOn kind number object state None k) (sym (still refl refl)) (says_more says)
goes_by {A} kind number object state new None false gave still rested says = subst (λ (k : ObjectsState A). GoesOn kind number object state None k) (sym (rested refl refl)) (rests says)
