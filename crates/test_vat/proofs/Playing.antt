-- The steps and runs of a vat, found by computing.
use Rattle.std.specs.Prelude.{◌≡◌, refl, ℕ, Bool, true, false, List, [], ◌∷◌, ◌++◌, map, is_some, Option, Some, None, Result, Ok, Err}
use Rattle.std.proofs.Common.{sym, ap, subst, unwrap_or, true≢false}
use Rattle.cp_messages.specs.declared.message.Message.{Message}
use Rattle.cp_vat_machine.specs.State.{State}
use Rattle.cp_vat_machine.specs.Step.{Receives, Does, aborts, Follows, all_left, found_full, Step, was_closed, refused, did, received, faulted}
use Rattle.cp_vat_machine.specs.Run.{Moment, Steps, Run}
use Rattle.cp_vat_machine.specs.declared.effect.Effect.{Effect}
use Rattle.cp_vat_machine.specs.declared.event.Event.{Event}
use Rattle.cp_vat_machine.specs.declared.event.Event.TheVariants as events
use Rattle.cp_vat_machine.specs.declared.event.Value.{Value}
use Rattle.cp_vat_machine.specs.declared.event.Value.TheVariants as values
use Rattle.cp_vat_machine.specs.declared.fault.VatFault.{VatFault}
use Rattle.cp_vat_machine.specs.declared.fault.VatFault.TheVariants as refusals
use Rattle.test_vat.proofs.Known.{Known, state, new_known}
use Rattle.test_vat.proofs.Found.{Finds, lacks, found, beside}
use Rattle.test_vat.proofs.Going.{Left, left, stuck, find_left}
use Rattle.test_vat.proofs.Hearing.{find_received}
use Rattle.test_vat.proofs.Owning.{owned, find_own_call}
use Rattle.test_vat.proofs.Acting.{find_own_bootstrap, find_answer, find_promise_made, find_resolved, find_own_finish, find_own_release, find_forgotten, find_idle}

-- what a call of the application does
abbrev pub find_done : (k : Known) (event : Event) → Finds owned (Does (state k) event)
find_done k (events.Receive m) = lacks
find_done k events.Bootstrap = find_own_bootstrap k
find_done k (events.Call c request) = find_own_call k c request
find_done k (events.Answer origin outcome) = find_answer k origin outcome
find_done k events.Promise = find_promise_made k
find_done k (events.Resolve p c) = find_resolved k p c
find_done k (events.Finish q) = find_own_finish k q
find_done k (events.Release i) = find_own_release k i
find_done k (events.Forget p) = find_forgotten k p
find_done k events.Idle = find_idle k

-- a step by this event, if one was found
pub data Stepped (k : Known) (event : Event) : Type 0 where
  stepped : (result : Result Value VatFault) (effects : List Effect) (new : Known) → Step (state k) event result effects (state new) → Stepped k event
  unstepped : Stepped k event

abbrev pub shut : Known → Known
shut k = record k { is_closed = true }

module _ (k : Known) where
  abbrev pub stepped_after : (event : Event) (value : Value) (first : List Effect) (mid : Known)
      → ((rest all : List Effect) (new : State) → Follows (state mid) rest new → all ≡ first ++ rest → Step (state k) event (Ok value) all new)
      → Left mid → Stepped k event
  stepped_after event value first mid by (left rest (Ok new) leave) = stepped (Ok value) (first ++ rest) new (by rest (first ++ rest) (state new) (all_left leave) refl)
  stepped_after event value first mid by (left rest (Err fault) leave) =
      stepped (Ok value) (first ++ (rest ++ aborts fault)) (shut mid) (by (rest ++ aborts fault) (first ++ (rest ++ aborts fault)) (state (shut mid)) (found_full leave refl refl) refl)
  stepped_after event value first mid by stuck = unstepped

  abbrev pub message_step : (m : Message) → k.is_closed ≡ false → Finds beside (Receives (state k) m) → Stepped k (events.Receive m)
  message_step m open_yet (found (Ok (first, mid)) receives) =
      stepped_after (events.Receive m) values.Nothing first mid (λ rest all new follows is. received m first rest (state mid) open_yet receives follows is) (find_left 9 mid)
  message_step m open_yet (found (Err fault) receives) = stepped (Ok values.Nothing) (aborts fault) (shut k) (faulted m open_yet receives refl)
  message_step m open_yet lacks = unstepped

  abbrev pub call_step : (event : Event) → k.is_closed ≡ false → Finds owned (Does (state k) event) → Stepped k event
  call_step event open_yet (found (Ok (value, first, mid)) does) =
      stepped_after event value first mid (λ rest all new follows is. did event first rest (state mid) open_yet does follows is) (find_left 9 mid)
  call_step event open_yet (found (Err fault) does) = stepped (Err fault) [] k (refused event open_yet does)
  call_step event open_yet lacks = unstepped

  abbrev pub open_step : (event : Event) → k.is_closed ≡ false → Stepped k event
  open_step (events.Receive m) open_yet = message_step m open_yet (find_received k m)
  open_step events.Bootstrap open_yet = call_step events.Bootstrap open_yet (find_done k events.Bootstrap)
  open_step (events.Call c request) open_yet = call_step (events.Call c request) open_yet (find_done k (events.Call c request))
  open_step (events.Answer origin outcome) open_yet = call_step (events.Answer origin outcome) open_yet (find_done k (events.Answer origin outcome))
  open_step events.Promise open_yet = call_step events.Promise open_yet (find_done k events.Promise)
  open_step (events.Resolve p c) open_yet = call_step (events.Resolve p c) open_yet (find_done k (events.Resolve p c))
  open_step (events.Finish q) open_yet = call_step (events.Finish q) open_yet (find_done k (events.Finish q))
  open_step (events.Release i) open_yet = call_step (events.Release i) open_yet (find_done k (events.Release i))
  open_step (events.Forget p) open_yet = call_step (events.Forget p) open_yet (find_done k (events.Forget p))
  open_step events.Idle open_yet = call_step events.Idle open_yet (find_done k events.Idle)

  abbrev pub step_if : (event : Event) (b : Bool) → k.is_closed ≡ b → Stepped k event
  step_if event true is = stepped (Err refusals.Closed) [] k (was_closed event is)
  step_if event false is = open_step event is

-- the moments of these events, if they make a run
pub data Played (k : Known) : Type 0 where
  played : (history : List Moment) (last : Known) → Steps (state k) history (state last) → Played k
  unplayed : Played k

abbrev pub played_on : (k : Known) (event : Event) (result : Result Value VatFault) (effects : List Effect) (mid : Known) → Step (state k) event result effects (state mid) → Played mid → Played k
played_on k event result effects mid step (played history last steps) = played (record { event = event; result = result; effects = effects } ∷ history) last (state mid, step, steps)
played_on k event result effects mid step unplayed = unplayed

abbrev pub played_by : (k : Known) (event : Event) → Stepped k event → ((mid : Known) → Played mid) → Played k
played_by k event (stepped result effects mid step) rest = played_on k event result effects mid step (rest mid)
played_by k event unstepped rest = unplayed

abbrev pub play : (k : Known) → List Event → Played k
play k [] = played [] k refl
play k (event ∷ more) = played_by k event (step_if k event k.is_closed refl) (λ mid. play mid more)

abbrev pub history_of : {k : Known} → Played k → Option (List Moment)
history_of (played history last steps) = Some history
history_of unplayed = None

-- What the events of a history make is a run, if it is that history.
run_by : (b : Option ℕ) (history : List Moment) (p : Played (new_known b)) → history_of p ≡ Some history → Run b history
run_by b history (played made last steps) e = subst (Run b) (ap (λ o. unwrap_or o history) e) (state last, steps)
run_by b history unplayed e = absurd (true≢false (sym (ap is_some e)))

pub is_run : (b : Option ℕ) (history : List Moment) → history_of (play (new_known b) (map (λ moment. moment.event) history)) ≡ Some history → Run b history
is_run b history e = run_by b history _ e
