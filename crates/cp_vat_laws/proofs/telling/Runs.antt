-- Each turn of every run tells what is given in it: so every run is in order.
use Rattle.std.specs.Prelude.{◌≡◌, ◌⊎◌, refl, not, Bool, true, false, if◌then◌else◌, List, [], ◌∷◌, filter, Option, Some, None, Result, Ok, Err}
use Rattle.std.specs.List.{AllByRecursion}
use Rattle.std.proofs.Common.{inl, inr, ap, subst, sym, ◌∙◌, true≢false}
use Rattle.cp_messages.specs.Written.{message_written}
use Rattle.cp_messages.specs.declared.message.Message.{Message}
use Rattle.cp_messages.specs.declared.message.Message.TheVariants as messages
use Rattle.cp_vat_machine.specs.State.{State, new_state, none_over}
use Rattle.cp_vat_machine.specs.Then.{Done, fault_if}
use Rattle.cp_vat_machine.specs.Capacity.{message_fits}
use Rattle.cp_vat_machine.specs.Supported.{is_supported}
use Rattle.cp_vat_machine.specs.Go.{Leave, stays, leaves, finds_table_full}
use Rattle.cp_vat_machine.specs.Local.{Local}
use Rattle.cp_vat_machine.specs.Step.{On, echo_fits, ReceivesIf, Receives, Does, Follows, all_left, found_full, Step, was_closed, ran_out, refused, did, received, faulted}
use Rattle.cp_vat_machine.specs.Run.{Moment, Steps}
use Rattle.cp_vat_machine.specs.Trace.{Turn, leaving_turns, following_turns, step_turns, turns_after}
use Rattle.cp_vat_machine.specs.Ports.{entry_of_message, entry_of_event}
use Rattle.cp_vat_machine.specs.Telling.{Fulfillment, MessageGives, is_telling, FulfillmentTold, TellsItsFulfillment}
use Rattle.cp_vat_machine.specs.declared.effect.Effect.{Effect}
use Rattle.cp_vat_machine.specs.declared.event.Event.{Event}
use Rattle.cp_vat_machine.specs.declared.event.Event.TheVariants as events
use Rattle.cp_vat_machine.specs.declared.event.Value.{Value}
use Rattle.cp_vat_machine.specs.declared.event.Value.TheVariants as values
use Rattle.cp_vat_machine.specs.declared.fault.PeerFault.{PeerFault}
use Rattle.cp_vat_machine.specs.declared.fault.PeerFault.TheVariants as faults
use Rattle.cp_vat_machine.specs.declared.fault.VatFault.{VatFault}
use Rattle.cp_vat_laws.specs.Within.{Within}
use Rattle.cp_vat_laws.specs.OrderKept.{RunsAreInOrder}
use Rattle.cp_vat_machine.proofs.Basics.{ok_in, ok_out, unless_out}
use Rattle.cp_vat_laws.proofs.order.Enters.{owning}
use Rattle.cp_vat_laws.proofs.order.WaitingGoes.{going}
use Rattle.cp_vat_laws.proofs.order.Quiet.{NoneLeaves, IsQuietly}
use Rattle.cp_vat_laws.proofs.order.Does.{quietly_out, did_bootstrap, did_promise, did_resolve, did_finish, did_release, did_forget, did_idle}
use Rattle.cp_vat_laws.proofs.order.OtherComes.{on_release, on_finish, on_abort, on_unimplemented, on_disembargo, on_resolve}
use Rattle.cp_vat_laws.proofs.telling.Silent.{IsSilent, bootstrap_silent, promise_silent, resolve_silent, finish_silent, release_silent, forget_silent, idle_silent, on_release_silent, on_finish_silent, on_abort_silent, on_unimplemented_silent, on_disembargo_silent, on_resolve_silent}
use Rattle.cp_vat_laws.proofs.telling.Told.{TellsFailure, going_tells, resting_tells, silent_fails, given_tells}
use Rattle.cp_vat_laws.proofs.telling.Enters.{call_tells, on_call_tells}
use Rattle.cp_vat_laws.proofs.telling.ReturnComes.{bootstrap_tells, return_tells}
use Rattle.cp_vat_laws.proofs.order.Step.{VatKeeps, leave_local}
use Rattle.cp_vat_laws.proofs.order.Leave.{GoesWithin}
use Rattle.cp_vat_machine.proofs.NewVats.{new_local}
use Rattle.cp_vat_laws.proofs.order.Runs.{vat_keeps, runs_are_orderly}
use Rattle.cp_vat_laws.proofs.within.Between.{local_is_within}
use Rattle.cp_vat_machine.specs.Give.{Give}
use Rattle.cp_vat_machine.specs.Doing.{answer_refusals}

module _ (old : State) (first : List Effect) (mid : State) (w : Within old None []) (none : old.waiting.over ≡ none_over) where
  silent_tells : (event : Event) (value : Value) → entry_of_event old event value ≡ None → NoneLeaves first → IsSilent first → TellsFailure (owning event value old first mid)
  silent_tells event value entry quiet silent = (None, sym (silent_fails event value old first mid entry quiet), silent)

  -- The application's calls.
  pub own_tells : (event : Event) (value : Value) → Does old event (Ok (value, first, mid)) → TellsItsFulfillment (owning event value old first mid)
  own_tells (events.Receive m) value does = absurd does
  own_tells events.Bootstrap value does =
      silent_tells events.Bootstrap value refl (did_bootstrap old (value, first, mid) w does).quiet (bootstrap_silent old (value, first, mid) does)
  own_tells (events.Call cap request) value does = call_tells old cap request value first mid w none does
  own_tells (events.Answer origin outcome) value does =
      let parts = quietly_out (Give old origin outcome) (value, first, mid) (unless_out (answer_refusals old origin outcome) _ (value, first, mid) does) in
      let is = parts.2 in
      let gives : Give old origin outcome (Ok (first, mid)) = subst (λ (d : Done). Give old origin outcome (Ok d)) (sym (ap (λ d. (d.1, d.2)) is)) parts.1 in
      (Some (record { origin = origin; outcome = outcome }), refl, given_tells (owning (events.Answer origin outcome) value old first mid) origin outcome gives)
  own_tells events.Promise value does = silent_tells events.Promise value refl (did_promise old (value, first, mid) does).quiet (promise_silent old (value, first, mid) does)
  own_tells (events.Resolve p cap) value does =
      silent_tells (events.Resolve p cap) value refl (did_resolve old p cap (value, first, mid) w does).quiet (resolve_silent old p cap (value, first, mid) does)
  own_tells (events.Finish q) value does = silent_tells (events.Finish q) value refl (did_finish old q (value, first, mid) does).quiet (finish_silent old q (value, first, mid) does)
  own_tells (events.Release i) value does = silent_tells (events.Release i) value refl (did_release old i (value, first, mid) does).quiet (release_silent old i (value, first, mid) does)
  own_tells (events.Forget p) value does = silent_tells (events.Forget p) value refl (did_forget old p (value, first, mid) does).quiet (forget_silent old p (value, first, mid) does)
  own_tells events.Idle value does = silent_tells events.Idle value refl (did_idle old (value, first, mid) does).quiet (idle_silent old (value, first, mid) does)

  -- what a message that is supported gives
  abbrev MessageTells : Message → Type 0
  MessageTells m =
      (fulfillment : Option Fulfillment) × MessageGives (owning (events.Receive m) values.Nothing old first mid) m fulfillment
      × FulfillmentTold (owning (events.Receive m) values.Nothing old first mid) fulfillment (filter is_telling first)

  quiet_message : (m : Message) → is_supported m ≡ true → entry_of_message old m ≡ None → IsQuietly old first mid → IsSilent first
      → TellsFailure (owning (events.Receive m) values.Nothing old first mid)
  quiet_message m supported entry quiet silent = silent_tells (events.Receive m) values.Nothing (rw (supported) entry) quiet.quiet silent

  on_tells : (m : Message) → is_supported m ≡ true → On old m (Ok (first, mid)) → MessageTells m
  on_tells (messages.Unimplemented t) supported does = quiet_message (messages.Unimplemented t) supported refl (on_unimplemented old t (first, mid) does) (on_unimplemented_silent old t (first, mid) does)
  on_tells (messages.Abort x) supported does = quiet_message (messages.Abort x) supported refl (on_abort old x (first, mid) does) (on_abort_silent old x (first, mid) does)
  on_tells (messages.Call c) supported does = on_call_tells old c first mid w none supported does
  on_tells (messages.Return r) supported does = return_tells old r first mid w none does
  on_tells (messages.Finish f) supported does = quiet_message (messages.Finish f) supported refl (on_finish old f (first, mid) does) (on_finish_silent old f (first, mid) does)
  on_tells (messages.Resolve r) supported does = quiet_message (messages.Resolve r) supported refl (on_resolve old r (first, mid) w none does) (on_resolve_silent old r (first, mid) does)
  on_tells (messages.Release r) supported does = quiet_message (messages.Release r) supported refl (on_release old r (first, mid) does) (on_release_silent old r (first, mid) does)
  on_tells (messages.Bootstrap b) supported does = (_, refl, bootstrap_tells old b.question_id first mid does)
  on_tells (messages.Disembargo d) supported does =
      quiet_message (messages.Disembargo d) supported refl (on_disembargo old d.context d.target (first, mid) none does) (on_disembargo_silent old d.context d.target (first, mid) does)
  on_tells (messages.Other which body) supported does = absurd does

  supported_tells : (m : Message) → is_supported m ≡ true → MessageTells m → TellsItsFulfillment (owning (events.Receive m) values.Nothing old first mid)
  supported_tells m supported tells = (tells.0, rw (supported) tells.1, tells.2)

  echo_silent : (b : Bool) (effects : List Effect) → IsSilent effects → ◌≡◌ {A = Result Done PeerFault} (Ok (first, mid)) (if b then Ok (effects, old) else Err faults.EchoTooLarge) → IsSilent first
  echo_silent true effects silent e = ap (λ d. filter is_telling d.0) (ok_in {F = PeerFault} (first, mid) (effects, old) e) ∙ silent
  echo_silent false effects silent e = ok_out e

  receives_by : (m : Message) (b : Bool) → is_supported m ≡ b → ReceivesIf b old m (Ok (first, mid)) → TellsItsFulfillment (owning (events.Receive m) values.Nothing old first mid)
  receives_by m true is does =
      supported_tells m is (on_tells m is (unless_out {A = Done} (fault_if (not (message_fits m)) faults.PayloadTooLarge) (On old m) (first, mid) does))
  receives_by m false is does = (None, rw (is) refl, echo_silent (echo_fits (message_written (messages.Unimplemented (message_written m)))) _ refl does)

  pub receives_tells : (m : Message) → Receives old m (Ok (first, mid)) → TellsItsFulfillment (owning (events.Receive m) values.Nothing old first mid)
  receives_tells m does = receives_by m (is_supported m) refl does

-- so do all turns of waiting calls
abbrev AllTell : List Turn → Type 0
AllTell turns = AllByRecursion TellsItsFulfillment turns

leave_tells : GoesWithin → {old : State} {all : List Effect} {out : Result State PeerFault} (leave : Leave old all out) (past : List Turn) → Within old None [] → AllTell past
    → AllTell (leaving_turns leave past)
leave_tells keeps {old = old} (stays none) past within h = (resting_tells old, h)
leave_tells keeps {old = old} (leaves {mid = mid} {first = first} call cap next goes rest is) past within h =
    leave_tells keeps rest (going old call first mid ∷ past) (keeps old mid call cap first within next goes) (going_tells old call cap first mid within next goes, h)
leave_tells keeps (finds_table_full call cap next goes) past within h = h

-- the turns of events tell, and the vat is closed or it holds between them
abbrev TellOrClosed : List Turn → State → Type 0
TellOrClosed past s = AllTell past × (Local s ⊎ (s.is_closed ≡ true))

follows_tell : GoesWithin → {mid new : State} {effects : List Effect} (follows : Follows mid effects new) (past : List Turn) → Within mid None [] → AllTell past
    → TellOrClosed (following_turns follows past) new
follows_tell keeps (all_left leaving) past within h = (leave_tells keeps leaving past within h, inl (leave_local keeps leaving within))
follows_tell keeps (found_full leaving is closes) past within h = (leave_tells keeps leaving past within h, inr closes)

open_local : (s : State) → s.is_closed ≡ false → Local s ⊎ (s.is_closed ≡ true) → Local s
open_local s open_ (inl h) = h
open_local s open_ (inr closed) = absurd (true≢false (sym closed ∙ open_))

step_tells : VatKeeps → {old new : State} {event : Event} {result : Result Value VatFault} {effects : List Effect} (step : Step old event result effects new) (past : List Turn)
    → TellOrClosed past old → TellOrClosed (step_turns step past) new
step_tells keeps (was_closed event closed) past h = h
step_tells keeps (ran_out event open_ closes) past h = (h.0, inr closes)
step_tells keeps (refused event open_ does) past h = h
step_tells keeps {old = old} (did {value = value} event first rest mid open_ does follows is) past h =
    let local = open_local old open_ h.1 in
    follows_tell keeps.goes follows _ (keeps.owns old mid event value first local does)
    (own_tells old first mid (local_is_within old local) local.none_over_ event value does, h.0)
step_tells keeps {old = old} (received m first rest mid open_ does follows is) past h =
    let local = open_local old open_ h.1 in
    follows_tell keeps.goes follows _ (keeps.hears old mid m first local does)
    (receives_tells old first mid (local_is_within old local) local.none_over_ m does, h.0)
step_tells keeps (faulted m open_ does closes) past h = (h.0, inr closes)

turns_tell : VatKeeps → (old new : State) (history : List Moment) (steps : Steps old history new) (past : List Turn) → TellOrClosed past old
    → AllTell (turns_after old new history steps past)
turns_tell keeps old new [] steps past h = h.0
turns_tell keeps old new (moment ∷ more) (mid, step, steps) past h = turns_tell keeps mid new more steps (step_turns step past) (step_tells keeps step past h)

-- Every run's turns are in order.
pub runs_are_in_order : RunsAreInOrder
runs_are_in_order bootstrap history run =
    let orderly = runs_are_orderly bootstrap history run in
    record {
      rising = orderly.rising;
      once = orderly.once;
      by_ports = orderly.by_ports;
      none_kept = orderly.none_kept;
      told = turns_tell vat_keeps (new_state bootstrap) run.0 history run.1 [] (tt, inl (new_local bootstrap));
    }
