-- What comes from other sessions of a host.
use Rattle.std.specs.Prelude.{◌≡◌, ℕ, Option, Some, None}
use Rattle.std.specs.FinMap.{get}
use Rattle.cp_refs.specs.declared.cap.Cap.{Cap}
use Rattle.cp_objects.specs.declared.any_object.AnyObject.{AnyObject}
use Rattle.cp_objects.specs.declared.letters.LetterBody.{LetterBody}
use Rattle.cp_objects.specs.declared.letters.LetterBody.TheVariants as bodies
use Rattle.cp_objects.specs.declared.object_entry.ObjectEntry.{ObjectEntry}
use Rattle.cp_objects.specs.declared.shared_cap.LentCap.{LentCap}
use Rattle.cp_objects.specs.AnyObject.{TakesLetter}
use Rattle.cp_objects.specs.Context.{ContextState, hereby, sharing}
use Rattle.cp_objects.specs.Objects.{ObjectsState, awoken, entered, leaving, placing, settled, with_forwarder, with_those_made}

module _ {A : Type 0} where
  -- a call needs the object that makes those of other sessions
  abbrev pub needing : LetterBody → ObjectsState A → ObjectsState A
  needing (bodies.Call call) state = with_forwarder state
  needing other state = state

  -- the number of the object that a letter is for
  abbrev pub receiver_of : LetterBody → ObjectsState A → Option ℕ
  receiver_of (bodies.Wake object) state = Some object
  receiver_of (bodies.Answer object ticket outcome) state = Some object
  receiver_of other state = state.forwarder

  -- The object of this number is told what another session says. It is to be polled, and what it did is done.
  pub record IsTold (number : ℕ) (body : LetterBody) (old new : ObjectsState A) : Type 0 where
    pub before : ObjectEntry (AnyObject A)
    pub object : AnyObject A
    pub place : ContextState A
    pub was : get old.members number ≡ Some before
    pub takes : TakesLetter body before.object (entered number old) place object
    pub is : new ≡ settled number (awoken number (leaving place (placing number (record before { object = object }) old)))

  -- The object that a letter is for is told what it says. Where that isn't there, nobody is.
  pub data Delivers (body : LetterBody) (old new : ObjectsState A) : Type 0 where
    is_told : (number : ℕ) → receiver_of body (needing body old) ≡ Some number → IsTold number body (needing body old) new → Delivers body old new
    is_for_nobody : receiver_of body (needing body old) ≡ None → new ≡ needing body old → Delivers body old new
    is_gone : (number : ℕ) → receiver_of body (needing body old) ≡ Some number → get (needing body old).members number ≡ None → new ≡ needing body old → Delivers body old new

  -- the program adds an object that stands for a capability of another session, which stays
  abbrev pub adding_shared : LentCap → ObjectsState A → ObjectsState A
  adding_shared shared state = let more = with_those_made (record state { context = hereby shared state.context }) in record more { stays = more.context.next }

  -- the program shares a capability of theirs
  abbrev pub sharing_so : Cap → ObjectsState A → ObjectsState A
  sharing_so cap state = settled 0 (record state { context = sharing cap state.context })
