-- What objects do.
use Rattle.std.specs.Prelude.{◌≡◌, ◌⊎◌, ℕ, Bool, true, false, List, [], ◌∷◌, ◌++◌, Option, None, length}
use Rattle.std.specs.declared.dyn_box.DynBox.{DynBox}
use Rattle.cp_refs.specs.declared.call.Request.{Request}
use Rattle.cp_refs.specs.declared.outcome.Outcome.{Outcome}
use Rattle.cp_servants.specs.declared.servant.OutgoingCall.{OutgoingCall}
use Rattle.cp_servants.specs.declared.servant.Reply.{Reply}
use Rattle.cp_servants.specs.declared.servant.Settled.{Settled}

-- What objects of one kind do: what each of these does to an object, and what it gives. An object is called under a ticket; it is polled; it says which call
-- it makes next; it is told what its call of a number came to. And it says whether a further poll may give more, though nothing more comes.
pub record Kind (A : Type 0) : Type 1 where
  pub takes : A → ℕ → Request → Reply → A → Type 0
  pub polls : A → Option Settled → A → Type 0
  pub next_calls : A → Option OutgoingCall → A → Type 0
  pub on_response : A → ℕ → Outcome → A → Type 0
  pub says_more : Bool → A → Type 0

-- Of objects of any kind nothing is said.
abbrev pub any : {A : Type 0} → Kind A
any = record {
  takes = λ old ticket request reply new. Unit {0};
  polls = λ old settled new. Unit {0};
  next_calls = λ old next_call new. Unit {0};
  on_response = λ old call_id outcome new. Unit {0};
  says_more = λ more object. Unit {0};
}

-- the kind of objects that do what their kind says as they are seen
abbrev pub seen_as : {A B : Type 0} → (A → B) → Kind B → Kind A
seen_as seen kind = record {
  takes = λ old ticket request reply new. kind.takes (seen old) ticket request reply (seen new);
  polls = λ old settled new. kind.polls (seen old) settled (seen new);
  next_calls = λ old next_call new. kind.next_calls (seen old) next_call (seen new);
  on_response = λ old call_id outcome new. kind.on_response (seen old) call_id outcome (seen new);
  says_more = λ more object. kind.says_more more (seen object);
}

-- What is in a box changed so, and the box is as it was.
abbrev pub ChangesIn : {I Z : Type 0} {F : I → Type 0} (old new : DynBox I Z F) → (F old.vtable → F old.vtable → Type 0) → Type 0
ChangesIn {F = F} old new P = (value : F old.vtable) × (new ≡ record old { value = value }) × P old.value value

-- the kind of boxes: what is done to a box is done to the object in it, by that object's kind
abbrev pub boxed : {I Z : Type 0} {F : I → Type 0} → ((b : DynBox I Z F) → Kind (F b.vtable)) → Kind (DynBox I Z F)
boxed kind = record {
  takes = λ old ticket request reply new. ChangesIn old new (λ before after. (kind old).takes before ticket request reply after);
  polls = λ old settled new. ChangesIn old new (λ before after. (kind old).polls before settled after);
  next_calls = λ old next_call new. ChangesIn old new (λ before after. (kind old).next_calls before next_call after);
  on_response = λ old call_id outcome new. ChangesIn old new (λ before after. (kind old).on_response before call_id outcome after);
  says_more = λ more b. (kind b).says_more more b.value;
}

-- Of these objects the one at this place changed so, and the others are as they were.
pub record ChangesAt {A : Type 0} (P : A → A → Type 0) (old : List A) (place : ℕ) (new : List A) : Type 0 where
  pub front : List A
  pub before : A
  pub after : A
  pub back : List A
  pub was : old ≡ front ++ before ∷ back
  pub at : length front ≡ place
  pub changes : P before after
  pub is : new ≡ front ++ after ∷ back

-- Of objects of one kind.
module _ {A : Type 0} (kind : Kind A) where
  -- An object said which call it makes next, as its kind says; or it makes none, and is as it was.
  abbrev pub NextCalls : A → Option OutgoingCall → A → Type 0
  NextCalls old next_call new = kind.next_calls old next_call new ⊎ ((next_call ≡ None) × (new ≡ old))

  -- An object was told what its call of this number came to, as its kind says; or it is as it was.
  abbrev pub OnResponse : A → ℕ → Outcome → A → Type 0
  OnResponse old call_id outcome new = kind.on_response old call_id outcome new ⊎ (new ≡ old)

  -- the object at this place was called under this ticket, and replied this
  abbrev pub CallsAt : ℕ → ℕ → Request → Reply → List A → List A → Type 0
  CallsAt place ticket request reply old new = ChangesAt (λ before after. kind.takes before ticket request reply after) old place new

  -- the object at this place was polled, and gave this
  abbrev pub PollsAt : ℕ → Option Settled → List A → List A → Type 0
  PollsAt place settled old new = ChangesAt (λ before after. kind.polls before settled after) old place new

  -- the object at this place said that this is the call that it makes next
  abbrev pub NextCallsAt : ℕ → Option OutgoingCall → List A → List A → Type 0
  NextCallsAt place next_call old new = ChangesAt (λ before after. NextCalls before next_call after) old place new

  -- the object at this place was told that its call of this number came to this
  abbrev pub OnResponseAt : ℕ → ℕ → Outcome → List A → List A → Type 0
  OnResponseAt place call_id outcome old new = ChangesAt (λ before after. OnResponse before call_id outcome after) old place new

  -- one of these objects says that it may give more
  abbrev pub SomeSaysMore : List A → Type 0
  SomeSaysMore [] = ⊥
  SomeSaysMore (first ∷ others) = kind.says_more true first ⊎ SomeSaysMore others

  -- each of them says that it gives no more
  abbrev pub NoneSaysMore : List A → Type 0
  NoneSaysMore [] = Unit {0}
  NoneSaysMore (first ∷ others) = kind.says_more false first × NoneSaysMore others

  -- what was said of them all
  abbrev pub AnySaysMore : Bool → List A → Type 0
  AnySaysMore true objects = SomeSaysMore objects
  AnySaysMore false objects = NoneSaysMore objects
