-- Each step keeps what holds of an open vat between events.
use Rattle.std.specs.Prelude.{◌≡◌, refl, ◌⊎◌, not, if◌then◌else◌, Bool, true, false, List, [], ◌∷◌, None, Result, Ok, Err}
use Rattle.std.proofs.Common.{inl, inr, sym, ◌∙◌, true≢false}
use Rattle.cp_messages.specs.Written.{message_written}
use Rattle.cp_messages.specs.declared.message.Message.{Message}
use Rattle.cp_messages.specs.declared.message.Message.TheVariants as messages
use Rattle.cp_vat_machine.specs.State.{State, none_over, new_state}
use Rattle.cp_vat_machine.specs.Then.{Done, fault_if}
use Rattle.cp_vat_machine.specs.Capacity.{message_fits}
use Rattle.cp_vat_machine.specs.Supported.{is_supported}
use Rattle.cp_vat_machine.specs.Resolving.{told}
use Rattle.cp_vat_machine.specs.Calling.{OwnDone}
use Rattle.cp_vat_machine.specs.Step.{On, echo_fits, echoed, ReceivesIf, Does, Follows, all_left, found_full, Step, was_closed, ran_out, refused, did, received, faulted}
use Rattle.cp_vat_machine.specs.Local.{Local}
use Rattle.cp_vat_machine.specs.declared.effect.Effect.{Effect}
use Rattle.cp_vat_machine.specs.declared.effect.Effect.TheVariants as effects
use Rattle.cp_vat_machine.specs.declared.event.Event.{Event}
use Rattle.cp_vat_machine.specs.declared.event.Event.TheVariants as events
use Rattle.cp_vat_machine.specs.declared.event.Value.{Value}
use Rattle.cp_vat_machine.specs.declared.fault.PeerFault.{PeerFault}
use Rattle.cp_vat_machine.specs.declared.fault.PeerFault.TheVariants as faults
use Rattle.cp_vat_machine.specs.declared.fault.VatFault.{VatFault}
use Rattle.cp_vat_machine.specs.Run.{Moment, Steps}
use Rattle.cp_vat_machine.proofs.Basics.{ok_in, ok_out, unless_out}
use Rattle.cp_vat_machine.proofs.NewVats.{new_local}
use Rattle.cp_vat_laws.specs.Within.{Within}
use Rattle.cp_vat_laws.specs.Keeping.{DoesWithin, ReceivesWithin, StepKeeps, RunsKeep}
use Rattle.cp_vat_laws.proofs.within.Between.{local_is_within}
use Rattle.cp_vat_laws.proofs.within.Leave.{leaves_local}
use Rattle.cp_vat_laws.proofs.within.CallComes.{bootstrap_keeps, call_keeps, finish_keeps}
use Rattle.cp_vat_laws.proofs.within.ReturnComes.{return_keeps}
use Rattle.cp_vat_laws.proofs.within.ResolveComes.{release_keeps, unknown_keeps, closed_keeps, resolve_keeps, disembargo_keeps}
use Rattle.cp_vat_laws.proofs.within.Call.{do_call_keeps}
use Rattle.cp_vat_laws.proofs.within.Finish.{do_finish_keeps}
use Rattle.cp_vat_laws.proofs.within.Does.{do_bootstrap_keeps, do_answer_keeps, do_promise_keeps, do_resolve_keeps, do_release_keeps, do_forget_keeps, do_idle_keeps}

module _ (s : State) (h : Within s None []) (still : s.waiting.over ≡ none_over) where
  -- a call of the application's
  does_keeps : (event : Event) (done : OwnDone) → Does s event (Ok done) → Within done.2 None []
  does_keeps (events.Receive m) done does = absurd does
  does_keeps events.Bootstrap done does = do_bootstrap_keeps s done h still does
  does_keeps (events.Call cap request) done does = do_call_keeps s cap request done h still does
  does_keeps (events.Answer origin outcome) done does = do_answer_keeps s origin outcome done h does
  does_keeps events.Promise done does = do_promise_keeps s done h still does
  does_keeps (events.Resolve p cap) done does = do_resolve_keeps s p cap done h does
  does_keeps (events.Finish q) done does = do_finish_keeps s q done h does
  does_keeps (events.Release i) done does = do_release_keeps s i done h still does
  does_keeps (events.Forget p) done does = do_forget_keeps s p done h still does
  does_keeps events.Idle done does = do_idle_keeps s done h does

  -- a message
  on_keeps : (m : Message) (done : Done) → On s m (Ok done) → Within done.1 None []
  on_keeps (messages.Unimplemented t) done does = unknown_keeps s (told t) done h does
  on_keeps (messages.Abort x) done does = rw (ok_in _ _ does) (closed_keeps s h)
  on_keeps (messages.Call c) done does = call_keeps s c done h still does
  on_keeps (messages.Return r) done does = return_keeps s r done h still does
  on_keeps (messages.Finish f) done does = finish_keeps s f done h does
  on_keeps (messages.Resolve r) done does = resolve_keeps s r done h still does
  on_keeps (messages.Release r) done does = release_keeps s r done h does
  on_keeps (messages.Bootstrap b) done does = bootstrap_keeps s b.question_id done h still does
  on_keeps (messages.Disembargo d) done does = disembargo_keeps s d.context d.target done h does
  on_keeps (messages.Other which body) done does = absurd does

  echo_keeps : (m : Message) (done : Done) → Ok done ≡ echoed s m → Within done.1 None []
  echo_keeps m done is = by (echo_fits (message_written (messages.Unimplemented (message_written m)))) is
    where
      by : (b : Bool) → Ok done ≡ (if b then Ok (effects.Send (messages.Unimplemented (message_written m)) ∷ [], s) else Err faults.EchoTooLarge)
          → Within done.1 None []
      by true same = rw (ok_in _ _ same) h
      by false same = ok_out same

  receives_keeps : (b : Bool) (m : Message) (done : Done) → ReceivesIf b s m (Ok done) → Within done.1 None []
  receives_keeps true m done does = on_keeps m done (unless_out {A = Done} {F = PeerFault} (fault_if (not (message_fits m)) faults.PayloadTooLarge)
      (On s m) done does)
  receives_keeps false m done does = echo_keeps m done does

pub does_within : DoesWithin
does_within old event done h does = does_keeps old (local_is_within old h) h.none_over_ event done does

pub receives_within : ReceivesWithin
receives_within old m done h does = receives_keeps old (local_is_within old h) h.none_over_ (is_supported m) m done does

-- a vat that is open was so before, and waiting calls left it
not_both : {Y : Type 0} (b : Bool) → b ≡ true → b ≡ false → Y
not_both b shut open_ = absurd (true≢false (sym shut ∙ open_))

follows_local : (mid new : State) (rest : List Effect) → Within mid None [] → new.is_closed ≡ false → Follows mid rest new → Local new
follows_local mid new rest h open_ (all_left leave) = leaves_local mid new rest h leave
follows_local mid new rest h open_ (found_full leave all shut) = not_both new.is_closed shut open_

step_local : {old new : State} {event : Event} {result : Result Value VatFault} {effects : List Effect} → Local old → new.is_closed ≡ false
    → Step old event result effects new → Local new
step_local h open_ (was_closed event shut) = h
step_local {new = new} h open_ (ran_out event was shut) = not_both new.is_closed shut open_
step_local h open_ (refused event was does) = h
step_local {old = old} {new = new} h open_ (did {value = value} event first rest mid was does follows all) =
    follows_local mid new rest (does_within old event (value, first, mid) h does) open_ follows
step_local {old = old} {new = new} h open_ (received m first rest mid was does follows all) =
    follows_local mid new rest (receives_within old m (first, mid) h does) open_ follows
step_local {new = new} h open_ (faulted m was does shut) = not_both new.is_closed shut open_

pub step_keeps : StepKeeps
step_keeps old new event result effects h open_ step = step_local h open_ step

-- In a run it holds until the vat is closed.
step_on : {old new : State} {event : Event} {result : Result Value VatFault} {effects : List Effect} → Local old ⊎ (old.is_closed ≡ true)
    → Step old event result effects new
    → Local new ⊎ (new.is_closed ≡ true)
step_on (inr shut) (was_closed event closed) = inr shut
step_on (inr shut) (ran_out event open_ closed) = inr closed
step_on {old = old} (inr shut) (refused event open_ does) = not_both old.is_closed shut open_
step_on {old = old} (inr shut) (did event first rest mid open_ does follows all) = not_both old.is_closed shut open_
step_on {old = old} (inr shut) (received m first rest mid open_ does follows all) = not_both old.is_closed shut open_
step_on (inr shut) (faulted m open_ does closed) = inr closed
step_on {new = new} (inl h) step = by new.is_closed refl
  where
    by : (b : Bool) → new.is_closed ≡ b → Local new ⊎ (new.is_closed ≡ true)
    by true is = inr is
    by false is = inl (step_local h is step)

steps_on : (history : List Moment) (old last : State) → Local old ⊎ (old.is_closed ≡ true) → Steps old history last → Local last ⊎ (last.is_closed ≡ true)
steps_on [] old last h steps = rw (steps) h
steps_on (moment ∷ more) old last h steps = steps_on more steps.0 last (step_on h steps.1) steps.2

if_open : (last : State) → last.is_closed ≡ false → Local last ⊎ (last.is_closed ≡ true) → Local last
if_open last open_ (inl h) = h
if_open last open_ (inr shut) = not_both last.is_closed shut open_

pub runs_keep : RunsKeep
runs_keep bootstrap history last steps open_ = if_open last open_ (steps_on history (new_state bootstrap) last (inl (new_local bootstrap)) steps)
