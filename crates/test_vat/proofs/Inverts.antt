-- What a step was, told from what it shows.
use Rattle.std.specs.Prelude.{◌≡◌, refl, ◌⊎◌, Bool, true, false, ◌||◌, List, [], ◌∷◌, ◌++◌, Option, Some, None, IfSome, Result, Ok, Err, is_ok, is_some, ⊤}
use Rattle.std.specs.List.{list_any}
use Rattle.std.specs.FinMap.{get}
use Rattle.std.proofs.Common.{sym, ap, ◌∙◌, true≢false, inl, inr}
use Rattle.cp_refs.specs.declared.cap.Cap.{Cap}
use Rattle.cp_refs.specs.declared.call.WaitingCall.{WaitingCall}
use Rattle.cp_vat_machine.specs.State.{State, gave, none_over, with_over}
use Rattle.cp_vat_machine.specs.Then.{Done, Then, Unless, OrFull}
use Rattle.cp_vat_machine.specs.Calling.{OwnDone}
use Rattle.cp_vat_machine.specs.Doing.{quietly, Quietly}
use Rattle.cp_vat_machine.specs.Go.{Leave, IsNext, NoneOver, GoTo, without_call, underway, stays, leaves, finds_table_full}
use Rattle.cp_vat_machine.specs.Step.{Receives, Does, Follows, all_left, found_full, Step, aborts, was_closed, ran_out, refused, did, received, faulted}
use Rattle.cp_vat_machine.specs.declared.effect.Effect.{Effect}
use Rattle.cp_vat_machine.specs.declared.effect.Effect.TheVariants as effects
use Rattle.cp_vat_machine.specs.declared.event.Event.{Event}
use Rattle.cp_vat_machine.specs.declared.event.Event.TheVariants as events
use Rattle.cp_vat_machine.specs.declared.event.Value.{Value}
use Rattle.cp_vat_machine.specs.declared.fault.PeerFault.{PeerFault}
use Rattle.cp_vat_machine.specs.declared.fault.VatFault.{VatFault}

-- results and options apart, and alike
pub err_not_ok : {A F : Type 0} {fault : F} {x : A} → ◌≡◌ {A = Result A F} (Err fault) (Ok x) → ⊥
err_not_ok e = true≢false (sym (ap is_ok e))

value_or : {A F : Type 0} → A → Result A F → A
value_or d (Ok x) = x
value_or d (Err fault) = d

pub ok_inj : {A F : Type 0} {x y : A} → ◌≡◌ {A = Result A F} (Ok x) (Ok y) → x ≡ y
unfolding value_or
ok_inj {x = x} e = ap (value_or x) e

some_or : {A : Type 0} → A → Option A → A
some_or d (Some x) = x
some_or d None = d

pub some_inj : {A : Type 0} {x y : A} → Some x ≡ Some y → x ≡ y
unfolding some_or
some_inj {x = x} e = ap (some_or x) e

pub none_not_some : {A : Type 0} {x : A} → None ≡ Some x → ⊥
none_not_some e = true≢false (sym (ap is_some e))

-- what follows gave its result after a first one
pub then_ok : {A B F : Type 0} (First : Result A F → Type 0) (next : A → Result B F → Type 0) (y : B) → Then First next (Ok y) → (x : A) × First (Ok x) × next x (Ok y)
then_ok First next y (Ok x, holds, follows) = (x, holds, follows)
then_ok First next y (Err fault, holds, is) = absurd (err_not_ok (sym is))

-- where no fault was told, none stands, and no table was full
pub unless_ok : {A F : Type 0} (faults : List F) (Rule : Result A F → Type 0) (y : A) → Unless faults Rule (Ok y) → Rule (Ok y)
unless_ok [] Rule y holds = holds
unless_ok (fault ∷ faults) Rule y is = absurd (err_not_ok (sym is))

pub full_ok : {A : Type 0} (Rule : Result A PeerFault → Type 0) (y : A) → OrFull Rule (Ok y) → Rule (Ok y)
full_ok Rule y (Ok x, holds, is) = rw (ok_inj is) holds
full_ok Rule y (Err fault, holds, is) = absurd (err_not_ok (sym is))

-- what a call without a value did
pub quietly_ok : (Rule : Result Done PeerFault → Type 0) (value : Value) (first : List Effect) (mid : State) → OrFull (Quietly Rule) (Ok (value, first, mid)) → Rule (Ok (first, mid))
quietly_ok Rule value first mid does = by_done (then_ok Rule (λ done out. out ≡ Ok (quietly done)) (value, first, mid) (full_ok (Quietly Rule) (value, first, mid) does))
  where
    by_done : (done : Done) × Rule (Ok done) × ◌≡◌ {A = Result OwnDone PeerFault} (Ok (value, first, mid)) (Ok (quietly done)) → Rule (Ok (first, mid))
    by_done (done, holds, is) = rw (ap {A = OwnDone} {B = Done} (λ own. (own.1, own.2)) (ok_inj is)) holds

-- an effect that closes the vat
abbrev pub is_closing : Effect → Bool
is_closing (effects.Closed reason) = true
is_closing other = false

closing_after : (first rest : List Effect) → list_any is_closing (first ++ rest) ≡ false → list_any is_closing rest ≡ false
closing_after [] rest e = e
closing_after (effect ∷ first) rest e = closing_after first rest (none_after (is_closing effect) _ e)
  where
    none_after : (a b : Bool) → (a || b) ≡ false → b ≡ false
    none_after false b e = e
    none_after true b e = absurd (true≢false e)

closing_last : (first : List Effect) (fault : PeerFault) → list_any is_closing (first ++ aborts fault) ≡ true
closing_last [] fault = refl
closing_last (effect ∷ first) fault = rw (closing_last first fault) (or_true (is_closing effect))
  where
    or_true : (a : Bool) → (a || true) ≡ true
    or_true true = refl
    or_true false = refl

pub left_of : {mid new : State} {rest : List Effect} → Follows mid rest new → list_any is_closing rest ≡ false → Leave mid rest (Ok new)
left_of (all_left leaving) quiet = leaving
left_of (found_full {rest = rest} {fault = fault} leaving is closes) quiet = absurd (true≢false (sym (closing_last rest fault) ∙ sym (ap (list_any is_closing) is) ∙ quiet))

-- a part of the event's own, and waiting calls leave
abbrev pub Parts : (List Effect → State → Type 0) → List Effect → State → Type 0
Parts Own all new = (first : List Effect) × (rest : List Effect) × (mid : State) × Own first mid × Leave mid rest (Ok new) × (all ≡ first ++ rest)

-- what a step that was answered shows, if nothing closes the vat
abbrev pub Answered : State → Event → Value → List Effect → State → Type 0
Answered old (events.Receive m) value all new = Parts (λ first mid. Receives old m (Ok (first, mid))) all new
Answered old event value all new = Parts (λ first mid. Does old event (Ok (value, first, mid))) all new

answered : (old new : State) (event : Event) (value : Value) (all : List Effect) (first rest : List Effect) (mid : State) → Does old event (Ok (value, first, mid))
    → Leave mid rest (Ok new) → all ≡ first ++ rest → Answered old event value all new
answered old new (events.Receive m) value all first rest mid does leaving is = absurd does
answered old new events.Bootstrap value all first rest mid does leaving is = (first, rest, mid, does, leaving, is)
answered old new (events.Call called request) value all first rest mid does leaving is = (first, rest, mid, does, leaving, is)
answered old new (events.Answer origin outcome) value all first rest mid does leaving is = (first, rest, mid, does, leaving, is)
answered old new events.Promise value all first rest mid does leaving is = (first, rest, mid, does, leaving, is)
answered old new (events.Resolve p resolved) value all first rest mid does leaving is = (first, rest, mid, does, leaving, is)
answered old new (events.Finish q) value all first rest mid does leaving is = (first, rest, mid, does, leaving, is)
answered old new (events.Release i) value all first rest mid does leaving is = (first, rest, mid, does, leaving, is)
answered old new (events.Forget p) value all first rest mid does leaving is = (first, rest, mid, does, leaving, is)
answered old new events.Idle value all first rest mid does leaving is = (first, rest, mid, does, leaving, is)

abbrev Shows : Result Value VatFault → State → Event → List Effect → State → Type 0
Shows (Ok value) old event all new = Answered old event value all new
Shows (Err fault) old event all new = ⊤

step_shows : {old new : State} {event : Event} {result : Result Value VatFault} {all : List Effect} → Step old event result all new → list_any is_closing all ≡ false
    → Shows result old event all new
step_shows (was_closed event closed) quiet = tt
step_shows (ran_out event open_before closed) quiet = tt
step_shows (refused event open_before does) quiet = tt
step_shows (did event first rest mid open_before does follows is) quiet =
    answered _ _ event _ _ first rest mid does (left_of follows (closing_after first rest (sym (ap (list_any is_closing) is) ∙ quiet))) is
step_shows (received m first rest mid open_before receives follows is) quiet = (
  first,
  rest,
  mid,
  receives,
  left_of follows (closing_after first rest (sym (ap (list_any is_closing) is) ∙ quiet)),
  is,
)
step_shows (faulted {fault = fault} m open_before receives closed) quiet = absurd (true≢false quiet)

pub shows : {old new : State} {event : Event} {value : Value} {all : List Effect} → Step old event (Ok value) all new → list_any is_closing all ≡ false
    → Answered old event value all new
shows step quiet = step_shows step quiet

-- the turns of waiting calls
abbrev pub NextGoes : State → List Effect → State → Type 0
NextGoes old all new =
    (call : WaitingCall) × (cap : Cap) × (first : List Effect) × (rest : List Effect) × (mid : State) × IsNext old call cap
    × GoTo (without_call old call) (underway call) cap (Ok (first, mid))
    × Leave mid rest (Ok new)
    × (all ≡ first ++ rest)

abbrev LeaveShows : State → List Effect → Result State PeerFault → Type 0
LeaveShows old all (Ok new) = (NoneOver old × (all ≡ []) × (new ≡ with_over old none_over)) ⊎ NextGoes old all new
LeaveShows old all (Err fault) = ⊤

leave_shows : {old : State} {all : List Effect} {out : Result State PeerFault} → Leave old all out → LeaveShows old all out
leave_shows (stays none) = inl (none, refl, refl)
leave_shows (leaves {mid = mid} {first = first} {rest = rest} {last = Ok new} call cap next went leaving is) = inr (call, cap, first, rest, mid, next, went, leaving, is)
leave_shows (leaves {last = Err fault} call cap next went leaving is) = tt
leave_shows (finds_table_full call cap next found) = tt

pub leave_ok : {old new : State} {all : List Effect} → Leave old all (Ok new) → (NoneOver old × (all ≡ []) × (new ≡ with_over old none_over)) ⊎ NextGoes old all new
leave_ok leaving = leave_shows leaving

-- where no gate has ended nothing goes
none_next : {s : State} {call : WaitingCall} {cap : Cap} → NoneOver s → IsNext s call cap → ⊥
none_next {s} {call} {cap} none next = none_not_some (sym (at_call (get s.waiting.calls call.ticket) next.waits (none call.ticket)) ∙ next.ended)
  where
    at_call : (o : Option WaitingCall) → o ≡ Some call → IfSome o (λ other. gave s.waiting.over other.gate ≡ None) → gave s.waiting.over call.gate ≡ None
    at_call (Some other) is none = rw (sym (some_inj is)) none
    at_call None is none = absurd (none_not_some is)

pub quiet : {s new : State} {all : List Effect} → NoneOver s → Leave s all (Ok new) → (all ≡ []) × (new ≡ with_over s none_over)
quiet {s} {new} {all} none leaving = by_shown (leave_ok leaving)
  where
    by_shown : (NoneOver s × (all ≡ []) × (new ≡ with_over s none_over)) ⊎ NextGoes s all new → (all ≡ []) × (new ≡ with_over s none_over)
    by_shown (inl (still, is, new_is)) = (is, new_is)
    by_shown (inr (call, given, first, rest, mid, next, went, leaving, is)) = absurd (none_next none next)
