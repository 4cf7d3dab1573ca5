-- A list of objects that is fixed.
use Rattle.std.specs.Prelude.{◌≡◌, ℕ, ◌<◌, ◌≤◌, true, List, [], Option, Some, None, length}
use Rattle.std.specs.Global.{Vec}
use Rattle.cp_servants.specs.Servant.{Kind, CallsAt, PollsAt, NextCallsAt, OnResponseAt, AnySaysMore}
use Rattle.cp_objects.specs.ObjectTable.{ObjectTableKind}

-- each is polled
abbrev pub IsListed : {A : Type 0} → ℕ → Option ℕ → List A → Type 0
IsListed from (Some number) objects = (number ≡ from) × (from < length objects)
IsListed from None objects = length objects ≤ from

-- What is done to the list is done to the object at a place of it. None goes, none is told its end or that a call was given up, none is woken, none makes
-- promises, and none gives up imports beside what it answers, or calls. Any may know each promise of the vat's.
abbrev pub listed : {A : Type 0} → Kind A → ObjectTableKind (Vec A)
listed kind = record {
  holds = λ number v. number < length v.items;
  calls = λ number ticket request reply old new. CallsAt kind number ticket request reply old.items new.items;
  polls = λ number settled old new. PollsAt kind number settled old.items new.items;
  next_calls = λ number next_call old new. NextCallsAt kind number next_call old.items new.items;
  drops_next_calls = λ number old new. new ≡ old;
  tells = λ number call_id outcome old new. OnResponseAt kind number call_id outcome old.items new.items;
  cancels = λ ticket told old new. (told ≡ None) × (new ≡ old);
  hands_canceled = λ call old new. (call ≡ None) × (new ≡ old);
  waits_less = λ number old new. new ≡ old;
  is_next = λ from next v. IsListed from next v.items;
  says_more = λ more v. AnySaysMore kind more v.items;
  guests = λ v. 0;
  idle = λ v. [];
  ends = λ number left old new. new ≡ old;
  ends_all = λ old new. new ≡ old;
  hands_settled = λ given old new. (given ≡ None) × (new ≡ old);
  is_in = λ session old new. new ≡ old;
  is_at = λ now old new. new ≡ old;
  wakes_due = λ old new. new ≡ old;
  wakes = λ number old new. new ≡ old;
  deadline = λ v. None;
  hands_on = λ letter old new. (letter ≡ None) × (new ≡ old);
  delivers = λ body old new. new ≡ old;
  hands_given_up = λ imports old new. (imports ≡ []) × (new ≡ old);
  hands_promise_request = λ promise_request old new. (promise_request ≡ None) × (new ≡ old);
  promise_of = λ number v. None;
  keeps_promise = λ number id old new. new ≡ old;
  means = λ outcome v. outcome;
  means_call = λ next_call v. next_call;
  loose = λ v. [];
  forgets = λ id old new. new ≡ old;
  knows = λ id v. true;
  unknown = λ promises v. 0;
}
