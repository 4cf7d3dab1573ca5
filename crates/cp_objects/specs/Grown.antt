-- Objects that grow, as those of a connection.
use Rattle.std.specs.Prelude.{◌≡◌, ◌↔◌, ℕ, true, [], ◌∷◌, Option, Some, None, IsSome, IsTrue, ◌+◌, ◌-◌, ◌^◌, min}
use Rattle.std.specs.FinMap.{get, len}
use Rattle.std.specs.FinSet as set
use Rattle.cp_objects.specs.declared.canceled_call.CanceledCall.{CanceledCall}
use Rattle.cp_objects.specs.declared.objects.Objects.{Objects}
use Rattle.cp_objects.specs.declared.letters.Letter.{Letter}
use Rattle.cp_objects.specs.Objects.{ObjectsState, objects_of, Calls, Polls, NextCalls, Responds, Ends, EndsAll, HandsSettled, changing, idle_of, in_session, lent_in, loose_of, promised_so, waking, woken}
use Rattle.cp_objects.specs.AnyObject.{any_object}
use Rattle.cp_objects.specs.Canceling.{Cancels}
use Rattle.cp_objects.specs.Delivering.{Delivers}
use Rattle.cp_objects.specs.ObjectTable.{ObjectTableKind}
use Rattle.cp_objects.specs.ServedObject.{ServedObjectKind}
use Rattle.cp_objects.specs.Members.{waiting_less, without_next_calls}
use Rattle.cp_objects.specs.Numbers.{Numbers, IsFirst}
use Rattle.cp_objects.specs.Promises.{HandsPromiseRequest, forgetting, has_name, keeping_promise, meant, with_next_call, with_outcome}

-- the first letter to another session is handed out, if there is one
abbrev pub HandsOn : {A : Type 0} → Option Letter → ObjectsState A → ObjectsState A → Type 0
HandsOn (Some letter) old new = (old.letters ≡ letter ∷ new.letters) × (new ≡ record old { letters = new.letters })
HandsOn None old new = (old.letters ≡ []) × (new ≡ old)

-- the first of the calls that were made and given up is handed out, if there is one
abbrev pub HandsCanceled : {A : Type 0} → Option CanceledCall → ObjectsState A → ObjectsState A → Type 0
HandsCanceled (Some call) old new = (old.canceled ≡ call ∷ new.canceled) × (new ≡ record old { canceled = new.canceled })
HandsCanceled None old new = (old.canceled ≡ []) × (new ≡ old)

-- one is to be polled
abbrev pub IsAwake : Numbers → Type 0
IsAwake s = (k : ℕ) × (set.contains s k ≡ true)

-- what is done to `Objects` is done to the object of a number
abbrev pub grown : {A : Type 0} → ServedObjectKind A A → ObjectTableKind (Objects A)
grown kind = record {
  holds = λ number f. IsSome (get (objects_of f).members number);
  calls = λ number ticket request reply old new. Calls (any_object kind) number ticket request reply (objects_of old) (objects_of new);
  polls = λ number given old new. Polls (any_object kind) number given (objects_of old) (objects_of new);
  next_calls = λ number next_call old new. NextCalls (any_object kind) number next_call (objects_of old) (objects_of new);
  drops_next_calls = λ number old new. objects_of new ≡ changing number without_next_calls (objects_of old);
  tells = λ number call_id outcome old new. Responds (any_object kind) number call_id outcome (objects_of old) (objects_of new);
  cancels = λ ticket told old new. Cancels (any_object kind) ticket told (objects_of old) (objects_of new);
  hands_canceled = λ call old new. HandsCanceled call (objects_of old) (objects_of new);
  waits_less = λ number old new. objects_of new ≡ changing number waiting_less (objects_of old);
  is_next = λ from next f. IsFirst from next (objects_of f).awake;
  says_more = λ more f. IsTrue more ↔ IsAwake (objects_of f).awake;
  guests = λ f. min (len (objects_of f).members + len (objects_of f).promised.names + lent_in (objects_of f)) (2 ^ 64 - 1);
  idle = λ f. idle_of (objects_of f);
  ends = λ number left old new. Ends (any_object kind) number left (objects_of old) (objects_of new);
  ends_all = λ old new. EndsAll (any_object kind) (objects_of old) (objects_of new);
  hands_settled = λ given old new. HandsSettled given (objects_of old) (objects_of new);
  is_in = λ session old new. objects_of new ≡ in_session session (objects_of old);
  is_at = λ now old new. objects_of new ≡ record (objects_of old) { context = record (objects_of old).context { now = now } };
  wakes_due = λ old new. objects_of new ≡ woken (objects_of old);
  wakes = λ number old new. objects_of new ≡ waking number (objects_of old);
  deadline = λ f. (objects_of f).first_alarm;
  hands_on = λ letter old new. HandsOn letter (objects_of old) (objects_of new);
  delivers = λ body old new. Delivers body (objects_of old) (objects_of new);
  hands_given_up = λ imports old new. (imports ≡ (objects_of old).given_up) × (objects_of new ≡ record (objects_of old) { given_up = [] });
  hands_promise_request = λ promise_request old new.
      HandsPromiseRequest promise_request (objects_of old).promised (objects_of new).promised × (objects_of new ≡ promised_so (objects_of new).promised (objects_of old));
  promise_of = λ number f. get (objects_of f).promised.ids number;
  keeps_promise = λ number id old new. objects_of new ≡ promised_so (keeping_promise number id (objects_of old).promised) (objects_of old);
  means = λ outcome f. with_outcome (meant (objects_of f).promised.ids) outcome;
  means_call = λ next_call f. with_next_call (meant (objects_of f).promised.ids) next_call;
  loose = λ f. loose_of (objects_of f);
  forgets = λ id old new. objects_of new ≡ promised_so (forgetting id (objects_of old).promised) (objects_of old);
  knows = λ id f. has_name id (objects_of f).promised;
  unknown = λ promises f. promises - len (objects_of f).promised.names;
}
