-- After each list of steps that leaves a vat open, local questions match their entries.
use Rattle.std.specs.Prelude.{◌≡◌, refl, not, Bool, true, false, List, [], ◌∷◌, Result, Ok}
use Rattle.cp_messages.specs.declared.message.Message.{Message}
use Rattle.cp_vat_machine.specs.State.{State}
use Rattle.cp_vat_machine.specs.Then.{Done, fault_if}
use Rattle.cp_vat_machine.specs.Capacity.{message_fits}
use Rattle.cp_vat_machine.specs.Supported.{is_supported}
use Rattle.cp_vat_machine.specs.Run.{Moment, Steps}
use Rattle.cp_vat_machine.specs.Step.{On, ReceivesIf, Follows, all_left, found_full, Step, was_closed, ran_out, refused, did, received, faulted}
use Rattle.cp_vat_machine.specs.declared.effect.Effect.{Effect}
use Rattle.cp_vat_machine.specs.declared.event.Event.{Event}
use Rattle.cp_vat_machine.specs.declared.event.Value.{Value}
use Rattle.cp_vat_machine.specs.declared.fault.PeerFault.{PeerFault}
use Rattle.cp_vat_machine.specs.declared.fault.PeerFault.TheVariants as faults
use Rattle.cp_vat_machine.specs.declared.fault.VatFault.{VatFault}
use Rattle.cp_vat_machine.proofs.Basics.{unless_out}
use Rattle.cp_vat_pair_laws.specs.LocalQuestions.{after_event, after_step, after_moments}
use Rattle.cp_vat_pair_laws.specs.Orderly.{IsOrderly}
use Rattle.cp_vat_pair_laws.proofs.counts.rules.Does.{does_goes}
use Rattle.cp_vat_pair_laws.proofs.counts.rules.Receives.{receives_heeds, follows_goes, echo_goes}
use Rattle.cp_vat_pair_laws.proofs.counts.Moves.{step_open, closed_open}
use Rattle.cp_vat_pair_laws.proofs.counts.local.Matches.{MatchBy, MatchAfter, match_both, match_more}
use Rattle.cp_vat_pair_laws.proofs.counts.local.Go.{leave_match}
use Rattle.cp_vat_pair_laws.proofs.counts.local.Does.{does_match}
use Rattle.cp_vat_pair_laws.proofs.counts.local.Receives.{Told, on_match}

follows_match : (mid new : State) (rest : List Effect) → new.is_closed ≡ false → IsOrderly mid → Follows mid rest new
    → MatchAfter mid.entries.questions rest new.entries.questions
follows_match mid new rest open_ orderly (all_left leave) = leave_match orderly leave
follows_match mid new rest open_ orderly (found_full leave all closed) = closed_open closed open_

-- A message that isn't supported is sent back, and changes nothing.
received_match : (b : Bool) (old : State) (m : Message) (done : Done) → ReceivesIf b old m (Ok done) → Told old done
received_match true old m done does =
    on_match old m done (unless_out {A = Done} {F = PeerFault} (fault_if (not (message_fits m)) faults.PayloadTooLarge) (On old m) done does)
received_match false old m done does =
    let echo = echo_goes old m done does in
    rw (echo.0, echo.1) (λ q question is. is)

received_orderly : (b : Bool) (old : State) (m : Message) (done : Done) → is_supported m ≡ b → IsOrderly old → ReceivesIf b old m (Ok done) → IsOrderly done.1
received_orderly true old m done supported orderly does = (receives_heeds old m done supported orderly (rw (supported) does)).1
received_orderly false old m done supported orderly does = rw ((echo_goes old m done does).0) orderly

-- one step
abbrev pub StepMatches : State → Event → Result Value VatFault → List Effect → State → Type 0
StepMatches old event result told new =
    MatchBy old.entries.questions (λ q question. after_step q event result told question) new.entries.questions × IsOrderly new

step_match : {old new : State} {event : Event} {result : Result Value VatFault} {told : List Effect} → IsOrderly old → new.is_closed ≡ false → Step old event result told new
    → StepMatches old event result told new
step_match orderly open_ (was_closed event shut) = closed_open shut open_
step_match orderly open_ (ran_out event was shut) = closed_open shut open_
step_match orderly open_ (refused event was does) = (λ q question is. is, orderly)
step_match {old = old} {new = new} orderly open_ (did {value = value} event first rest mid was does follows all) =
    let goes = does_goes old event (value, first, mid) orderly does in (
      rw
          (all)
          (match_more old.entries.questions mid.entries.questions new.entries.questions (λ q question. after_event q event value question) first rest
          (does_match old event (value, first, mid) does) (follows_match mid new rest open_ goes.1 follows)),
      (follows_goes mid new rest open_ goes.1 follows).1,
    )
step_match {old = old} {new = new} orderly open_ (received m first rest mid was does follows all) =
    let on = received_orderly (is_supported m) old m (first, mid) refl orderly does in (
      rw
          (all)
          (match_both old.entries.questions mid.entries.questions new.entries.questions first rest
          (received_match (is_supported m) old m (first, mid) does) (follows_match mid new rest open_ on follows)),
      (follows_goes mid new rest open_ on follows).1,
    )
step_match orderly open_ (faulted m was does shut) = closed_open shut open_

-- steps one after another
pub still_open : (history : List Moment) (old last : State) → Steps old history last → last.is_closed ≡ false → old.is_closed ≡ false
still_open [] old last steps open_ = rw (← steps) open_
still_open (moment ∷ more) old last steps open_ = step_open (still_open more steps.0 last steps.2 open_) steps.1

abbrev pub StepsMatch : State → List Moment → State → Type 0
StepsMatch old history last = MatchBy old.entries.questions (λ q question. after_moments q history question) last.entries.questions × IsOrderly last

pub steps_match : (history : List Moment) (old last : State) → IsOrderly old → Steps old history last → last.is_closed ≡ false → StepsMatch old history last
steps_match [] old last orderly steps open_ = rw (steps) (λ q question is. is, orderly)
steps_match (moment ∷ more) old last orderly steps open_ =
    let here = step_match orderly (still_open more steps.0 last steps.2 open_) steps.1 in
    let rest = steps_match more steps.0 last here.1 steps.2 open_ in
    (λ q question is. rest.0 q (after_step q moment.event moment.result moment.effects question) (here.0 q question is), rest.1)
