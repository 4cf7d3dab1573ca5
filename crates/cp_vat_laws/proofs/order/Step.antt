-- Each event keeps the invariant of order, and so does a list of them.
use Rattle.std.specs.Prelude.{◌≡◌, ◌⊎◌, refl, ℕ, ◌==◌, not, cond, Bool, true, false, if◌then◌else◌, List, [], ◌∷◌, ◌++◌, Option, Some, None, Result, Ok, Err, ⊤}
use Rattle.std.specs.FinMap.{get, empty, get-empty}
use Rattle.std.specs.Ordering.{nat_cmp}
use Rattle.std.proofs.Common.{inl, inr, ap, sym, ◌∙◌, true≢false}
use Rattle.cp_messages.specs.declared.message.Message.{Message}
use Rattle.cp_messages.specs.declared.message.Message.TheVariants as messages
use Rattle.cp_refs.specs.declared.call.WaitingCall.{WaitingCall}
use Rattle.cp_vat_machine.specs.State.{State, new_state, none_over}
use Rattle.cp_vat_machine.specs.Then.{Done, fault_if}
use Rattle.cp_vat_machine.specs.Capacity.{message_fits}
use Rattle.cp_vat_machine.specs.Supported.{is_supported}
use Rattle.cp_vat_machine.specs.Go.{Leave, stays, leaves, finds_table_full}
use Rattle.cp_vat_machine.specs.Local.{Local}
use Rattle.cp_vat_machine.specs.Step.{On, echo_fits, ReceivesIf, Receives, Does, Follows, all_left, found_full, Step, was_closed, ran_out, refused, did, received, faulted}
use Rattle.cp_vat_machine.specs.Run.{Moment, Steps, Run}
use Rattle.cp_vat_machine.specs.Trace.{Turn, following_turns, step_turns, turns_after, trace_of}
use Rattle.cp_vat_machine.specs.Ports.{entry_of_message, entry_of_event}
use Rattle.cp_vat_machine.specs.declared.effect.Effect.{Effect}
use Rattle.cp_vat_machine.specs.declared.event.Event.{Event}
use Rattle.cp_vat_machine.specs.declared.event.Event.TheVariants as events
use Rattle.cp_vat_machine.specs.declared.event.Value.{Value}
use Rattle.cp_vat_machine.specs.declared.event.Value.TheVariants as values
use Rattle.cp_vat_machine.specs.declared.fault.PeerFault.{PeerFault}
use Rattle.cp_vat_machine.specs.declared.fault.PeerFault.TheVariants as faults
use Rattle.cp_vat_machine.specs.declared.fault.VatFault.{VatFault}
use Rattle.cp_vat_laws.specs.Within.{Within}
use Rattle.cp_vat_laws.specs.OrderKept.{AreOrderly, OrderHolds}
use Rattle.cp_vat_machine.proofs.Basics.{none_out, ok_in, ok_out, unless_out}
use Rattle.cp_vat_laws.proofs.order.Passes.{Sound}
use Rattle.cp_vat_laws.proofs.order.Sound.{sound_within}
use Rattle.cp_vat_laws.proofs.order.Closes.{same_closes}
use Rattle.cp_vat_laws.proofs.order.Enters.{owning}
use Rattle.cp_vat_laws.proofs.order.Quiet.{IsQuietly, closes_quietly, quietly_holds}
use Rattle.cp_vat_laws.proofs.order.CallComes.{on_call}
use Rattle.cp_vat_laws.proofs.order.Call.{do_call}
use Rattle.cp_vat_laws.proofs.order.Does.{did_bootstrap, did_promise, did_answer, did_resolve, did_finish, did_release, did_forget, did_idle}
use Rattle.cp_vat_laws.proofs.order.OtherComes.{on_release, on_finish, on_abort, on_unimplemented, on_disembargo, on_resolve, on_bootstrap}
use Rattle.cp_vat_laws.proofs.order.ReturnComes.{on_return}
use Rattle.cp_vat_laws.proofs.order.Leave.{GoesWithin, leave_holds}
use Rattle.cp_vat_laws.proofs.within.Between.{local_is_within, within_is_local}

module _ (past : List Turn) (old : State) (first : List Effect) (mid : State) (h : OrderHolds past old) (w : Within old None []) (none : old.waiting.over ≡ none_over)
    (later : Within mid None []) where
  after : Sound mid
  after = sound_within mid None [] later

  quietly_own : (event : Event) (value : Value) → entry_of_event old event value ≡ None → IsQuietly old first mid → OrderHolds (owning event value old first mid ∷ past) mid
  quietly_own event value entry quiet = quietly_holds past event value old first mid entry quiet (sound_within old None [] w) after h

  -- The application's calls.
  pub own_holds : (event : Event) (value : Value) → Does old event (Ok (value, first, mid)) → OrderHolds (owning event value old first mid ∷ past) mid
  own_holds (events.Receive m) value does = absurd does
  own_holds events.Bootstrap value does = quietly_own events.Bootstrap value refl (did_bootstrap old (value, first, mid) w does)
  own_holds (events.Call cap request) value does = do_call past old cap request value first mid h w none after does
  own_holds (events.Answer origin outcome) value does = quietly_own (events.Answer origin outcome) value refl (did_answer old origin outcome (value, first, mid) w does)
  own_holds events.Promise value does = quietly_own events.Promise value refl (did_promise old (value, first, mid) does)
  own_holds (events.Resolve p cap) value does = quietly_own (events.Resolve p cap) value refl (did_resolve old p cap (value, first, mid) w does)
  own_holds (events.Finish q) value does = quietly_own (events.Finish q) value refl (did_finish old q (value, first, mid) does)
  own_holds (events.Release i) value does = quietly_own (events.Release i) value refl (did_release old i (value, first, mid) does)
  own_holds (events.Forget p) value does = quietly_own (events.Forget p) value refl (did_forget old p (value, first, mid) does)
  own_holds events.Idle value does = quietly_own events.Idle value refl (did_idle old (value, first, mid) does)

  -- Messages that are supported, and others.
  heard : (m : Message) → is_supported m ≡ true → entry_of_message old m ≡ None → IsQuietly old first mid → OrderHolds (owning (events.Receive m) values.Nothing old first mid ∷ past) mid
  heard m supported entry quiet = quietly_own (events.Receive m) values.Nothing (rw (supported) entry) quiet

  on_holds : (m : Message) → is_supported m ≡ true → On old m (Ok (first, mid)) → OrderHolds (owning (events.Receive m) values.Nothing old first mid ∷ past) mid
  on_holds (messages.Unimplemented t) supported does = heard (messages.Unimplemented t) supported refl (on_unimplemented old t (first, mid) does)
  on_holds (messages.Abort x) supported does = heard (messages.Abort x) supported refl (on_abort old x (first, mid) does)
  on_holds (messages.Call c) supported does = on_call past old c first mid h w none supported after does
  on_holds (messages.Return r) supported does = heard (messages.Return r) supported refl (on_return old r (first, mid) w none does)
  on_holds (messages.Finish f) supported does = heard (messages.Finish f) supported refl (on_finish old f (first, mid) does)
  on_holds (messages.Resolve r) supported does = heard (messages.Resolve r) supported refl (on_resolve old r (first, mid) w none does)
  on_holds (messages.Release r) supported does = heard (messages.Release r) supported refl (on_release old r (first, mid) does)
  on_holds (messages.Bootstrap b) supported does = heard (messages.Bootstrap b) supported refl (on_bootstrap old b.question_id (first, mid) w none does)
  on_holds (messages.Disembargo d) supported does = heard (messages.Disembargo d) supported refl (on_disembargo old d.context d.target (first, mid) none does)
  on_holds (messages.Other which body) supported does = absurd does

  echo_by : (m : Message) (b : Bool) (effects : List Effect) → is_supported m ≡ false
      → ◌≡◌ {A = Result Done PeerFault} (Ok (first, mid)) (if b then Ok (effects, old) else Err faults.EchoTooLarge)
      → ((s : State) → Rattle.std.specs.Prelude.flat_map (Rattle.cp_vat_machine.specs.Exits.exit_by s) effects ≡ []) → IsQuietly old first mid
  echo_by m true effects other e quiet =
      rw (ap (λ d. d.0) (ok_in {F = PeerFault} (first, mid) (effects, old) e), ap (λ d. d.1) (ok_in {F = PeerFault} (first, mid) (effects, old) e))
      (closes_quietly old effects old (same_closes old old refl refl refl refl) quiet)
  echo_by m false effects other e quiet = ok_out e

  receives_by : (m : Message) (b : Bool) → is_supported m ≡ b → ReceivesIf b old m (Ok (first, mid)) → OrderHolds (owning (events.Receive m) values.Nothing old first mid ∷ past) mid
  receives_by m true is does =
      on_holds m is (unless_out {A = Done} (fault_if (not (message_fits m)) faults.PayloadTooLarge) (On old m) (first, mid) does)
  receives_by m false is does =
      quietly_own (events.Receive m) values.Nothing (rw (is) refl)
      (echo_by m (echo_fits (Rattle.cp_messages.specs.Written.message_written (messages.Unimplemented (Rattle.cp_messages.specs.Written.message_written m)))) _ is does (λ s. refl))

  pub receives_holds : (m : Message) → Receives old m (Ok (first, mid)) → OrderHolds (owning (events.Receive m) values.Nothing old first mid ∷ past) mid
  receives_holds m does = receives_by m (is_supported m) refl does

-- What each part of an event keeps of a vat.
pub record VatKeeps : Type 0 where
  pub owns : (old mid : State) (event : Event) (value : Value) (first : List Effect) → Local old → Does old event (Ok (value, first, mid)) → Within mid None []
  pub hears : (old mid : State) (m : Message) (first : List Effect) → Local old → Receives old m (Ok (first, mid)) → Within mid None []
  pub goes : GoesWithin

-- where waiting calls have left, it holds between events
abbrev pub LeftLocal : Result State PeerFault → Type 0
LeftLocal (Ok last) = Local last
LeftLocal (Err fault) = Unit {0}

pub leave_local : GoesWithin → {old : State} {all : List Effect} {out : Result State PeerFault} → Leave old all out → Within old None [] → LeftLocal out
leave_local keeps {old = old} (stays none) within = within_is_local old within none
leave_local keeps {old = old} (leaves {mid = mid} {first = first} call cap next goes rest is) within = leave_local keeps rest (keeps old mid call cap first within next goes)
leave_local keeps (finds_table_full call cap next goes) within = tt

-- After an event the invariant holds, or the vat is closed and its turns were in order.
abbrev pub HoldsOrClosed : List Turn → State → Type 0
HoldsOrClosed past s = (Local s × OrderHolds past s) ⊎ ((s.is_closed ≡ true) × AreOrderly past)

follows_hold : GoesWithin → {mid new : State} {effects : List Effect} (follows : Follows mid effects new) (past : List Turn) → Within mid None [] → OrderHolds past mid
    → HoldsOrClosed (following_turns follows past) new
follows_hold keeps (all_left leaving) past within h = inl (leave_local keeps leaving within, leave_holds keeps leaving past within h)
follows_hold keeps (found_full leaving is closes) past within h = inr (closes, leave_holds keeps leaving past within h)

orderly_of : (past : List Turn) (s : State) → HoldsOrClosed past s → AreOrderly past
orderly_of past s (inl h) = h.1.orderly
orderly_of past s (inr h) = h.1

open_holds : (past : List Turn) (s : State) → s.is_closed ≡ false → HoldsOrClosed past s → Local s × OrderHolds past s
open_holds past s open_ (inl h) = h
open_holds past s open_ (inr h) = absurd (true≢false (sym h.0 ∙ open_))

step_holds : VatKeeps → {old new : State} {event : Event} {result : Result Value VatFault} {effects : List Effect} (step : Step old event result effects new) (past : List Turn)
    → HoldsOrClosed past old → HoldsOrClosed (step_turns step past) new
step_holds keeps (was_closed event closed) past h = h
step_holds keeps {old = old} (ran_out event open_ closes) past h = inr (closes, orderly_of past old h)
step_holds keeps (refused event open_ does) past h = h
step_holds keeps {old = old} (did {value = value} event first rest mid open_ does follows is) past h =
    let now = open_holds past old open_ h in
    let later = keeps.owns old mid event value first now.0 does in
    follows_hold keeps.goes follows _ later (own_holds past old first mid now.1 (local_is_within old now.0) now.0.none_over_ later event value does)
step_holds keeps {old = old} (received m first rest mid open_ does follows is) past h =
    let now = open_holds past old open_ h in
    let later = keeps.hears old mid m first now.0 does in
    follows_hold keeps.goes follows _ later (receives_holds past old first mid now.1 (local_is_within old now.0) now.0.none_over_ later m does)
step_holds keeps {old = old} (faulted m open_ does closes) past h = inr (closes, orderly_of past old h)

pub turns_hold : VatKeeps → (old new : State) (history : List Moment) (steps : Steps old history new) (past : List Turn) → HoldsOrClosed past old
    → AreOrderly (turns_after old new history steps past)
turns_hold keeps old new [] steps past h = orderly_of past old h
turns_hold keeps old new (moment ∷ more) (mid, step, steps) past h = turns_hold keeps mid new more steps (step_turns step past) (step_holds keeps step past h)

-- a new vat
pub new_holds : (bootstrap : Option ℕ) → OrderHolds [] (new_state bootstrap)
new_holds bootstrap =
    record {
      after = tt;
      below = λ ticket port is. none_out is;
      lives = λ ticket port is. none_out is;
      waits = λ ticket. rw (get-empty {X = WaitingCall} nat_cmp ticket) tt;
      together = λ ticket other call held n is there same at none. none_out (sym (get-empty {X = WaitingCall} nat_cmp ticket) ∙ is);
      entered = tt;
      left = tt;
      orderly = record { rising = tt; once = tt; by_ports = tt; none_kept = tt };
    }

-- The turns of every run are orderly.
pub runs_hold : VatKeeps → ((bootstrap : Option ℕ) → Local (new_state bootstrap)) → (bootstrap : Option ℕ) (history : List Moment) (run : Run bootstrap history)
    → AreOrderly (trace_of bootstrap history run)
runs_hold keeps local bootstrap history run = turns_hold keeps (new_state bootstrap) run.0 history run.1 [] (inl (local bootstrap, new_holds bootstrap))
