-- Calls that are given up before they are answered.
use Rattle.std.specs.Prelude.{◌≡◌, ℕ, Option, Some, None}
use Rattle.std.specs.FinMap.{get}
use Rattle.cp_objects.specs.declared.any_object.AnyObject.{AnyObject}
use Rattle.cp_objects.specs.declared.object_entry.ObjectEntry.{ObjectEntry}
use Rattle.cp_objects.specs.Context.{ContextState}
use Rattle.cp_objects.specs.Objects.{ObjectsState, awoken, entered, leaving, placing, settled}
use Rattle.cp_objects.specs.ServedObject.{ServedObjectKind}

module _ {A : Type 0} (kind : ServedObjectKind (AnyObject A) A) where
  -- The object of this number is told that the call of this ticket was given up. It is to be polled, and what it did is done.
  pub record IsToldCancel (number ticket : ℕ) (old new : ObjectsState A) : Type 0 where
    pub before : ObjectEntry (AnyObject A)
    pub object : AnyObject A
    pub place : ContextState A
    pub was : get old.members number ≡ Some before
    pub on_cancel : kind.on_cancel before.object ticket (entered number old) place object
    pub is : new ≡ settled number (awoken number (leaving place (placing number (record before { object = object }) old)))

  -- The object is told that owes the answer of this call. Where none does that is there, nobody is.
  pub data Cancels (ticket : ℕ) : Option ℕ → ObjectsState A → ObjectsState A → Type 0 where
    is_told : {old new : ObjectsState A} (owner : ℕ) → get old.pending_answers ticket ≡ Some owner → IsToldCancel owner ticket old new → Cancels ticket (Some owner) old new
    is_owed_by_none : {old : ObjectsState A} → get old.pending_answers ticket ≡ None → Cancels ticket None old old
    owner_is_gone : {old : ObjectsState A} (owner : ℕ) → get old.pending_answers ticket ≡ Some owner → get old.members owner ≡ None → Cancels ticket None old old
