-- A message that lends a call is a step of the machine.
use Rattle.std.proofs.Common.{◌≡◌, false, List, [], ◌++◌, Option, Some, None, Result, Ok, Err, IfOk, refl, sym, ap, ◌∙◌, subst, append_assoc}
use Rattle.cp_messages.specs.declared.message.Message.{Message}
use Rattle.cp_vat_machine.specs.State.{State}
use Rattle.cp_vat_machine.specs.Then.{Done}
use Rattle.cp_vat_machine.specs.Step.{Receives, Step, ran_out, received}
use Rattle.cp_vat_machine.specs.declared.acted.Acted.{Acted}
use Rattle.cp_vat_machine.specs.declared.effect.Effect.{Effect}
use Rattle.cp_vat_machine.specs.declared.event.Event.TheVariants as events
use Rattle.cp_vat_machine.specs.declared.event.Value.TheVariants as values
use Rattle.cp_vat_machine.specs.declared.fault.PeerFault.{PeerFault}
use Rattle.cp_vat_machine.specs.declared.fault.VatFault.{VatFault}
use Rattle.cp_vat_laws.specs.Within.{Within}
use Rattle.cp_vat_laws.specs.Sizes.{AreWritable}
use Rattle.cp_vat_laws.proofs.writable.Stepping.{steps_write}
use Rattle.cp_vat_laws.proofs.within.Step.{receives_within, step_keeps}
use Rattle.cp_vat_state.specs.Halts.{Acts}
use Rattle.cp_vat_state.specs.declared.step_fault.StepFault.{StepFault}
use Rattle.cp_vat_state.specs.declared.step_fault.StepFault.TheVariants as halts
use Rattle.cp_vat.specs.Lending.{ActsLending, LendingEnds, deliveries, effects_lending, lending_none}
use Rattle.cp_vat.specs.Stepping.{answered, effects_of, BetweenEvents, Stays}
use Rattle.cp_vat.specs.declared.borrowed_call.BorrowedCall.{BorrowedCall}
use Rattle.cp_vat.proofs.Stepping.{message_steps}

module _ (R Q : Result Done PeerFault → Type 0) where
  -- a fault of one rule is one of another that follows from it
  pub lends_fault : (step_fault : StepFault) (before after : List Effect) (new : State) → ((out : Result Done PeerFault) → R out → Q out) → Acts R (Err step_fault) before after new → ActsLending Q (Err step_fault) before after new
  lends_fault (halts.Fault fault) before after new on h = on (Err fault) h
  lends_fault halts.OutOfMemory before after new on h = tt

  -- so what was done, where nothing is lent
  pub lends_none : (before after : List Effect) (new : State) → ((out : Result Done PeerFault) → R out → Q out) → Acts R (Ok tt) before after new → ActsLending Q (Ok None) before after new
  lends_none before after new on h = (h.0, h.1, on _ h.2)

faulted : (R : Result Done PeerFault → Type 0) (step_fault : StepFault) (before after : List Effect) (new : State) → ActsLending R (Err step_fault) before after new → Acts R (Err step_fault) before after new
faulted R (halts.Fault fault) before after new h = h
faulted R halts.OutOfMemory before after new h = tt

-- nothing is sent by a delivery
sent_apart : (lent : Option BorrowedCall) (others : List Effect) → AreWritable (deliveries lent ++ others) → AreWritable others
sent_apart None others h = h
sent_apart (Some lent) others h = h.1

module _ (m : Message) (old : State) where
  -- a message is a step
  pub lending_steps : (mid new : State) (done : Result (Option BorrowedCall) StepFault) (none after : List Effect) (result : Result (Acted (Option BorrowedCall)) VatFault) → none ≡ [] → old.is_closed ≡ false
      → ActsLending (Receives old m) done none after mid → LendingEnds mid done after result new
      → Step old (events.Receive m) (answered (λ _. values.Nothing) result) (effects_lending result) new
  lending_steps mid new (Ok lent) none after (Ok acted) nothing still done ended =
      received m (deliveries lent ++ done.0) ended.1.0 mid still done.2 ended.1.2
      (ap (λ v. deliveries v ++ acted.effects) ended.0 ∙ ap (λ l. deliveries lent ++ l) (ended.1.1 ∙ ap (λ l. l ++ ended.1.0) (done.1 ∙ ap (λ l. l ++ done.0) nothing)) ∙ sym (append_assoc (deliveries lent) done.0 ended.1.0))
  lending_steps mid new (Ok lent) none after (Err fault) nothing still done ended = rw ended.0 (ran_out (events.Receive m) still ended.1)
  lending_steps mid new (Err step_fault) none after (Ok acted) nothing still done ended =
      subst (λ v. Step old (events.Receive m) (Ok values.Nothing) (deliveries v ++ acted.effects) new) (sym ended.0)
      (message_steps m old mid new (Err step_fault) none after (lending_none (Ok acted)) nothing still (faulted (Receives old m) step_fault none after mid done) ended.1)
  lending_steps mid new (Err step_fault) none after (Err fault) nothing still done ended =
      message_steps m old mid new (Err step_fault) none after (Err fault) nothing still (faulted (Receives old m) step_fault none after mid done) ended.1

  -- each message that it sent can be written
  pub lending_writes : (mid new : State) (done : Result (Option BorrowedCall) StepFault) (none after : List Effect) (result : Result (Acted (Option BorrowedCall)) VatFault) → none ≡ [] → Stays old → old.is_closed ≡ false
      → ActsLending (Receives old m) done none after mid → LendingEnds mid done after result new → AreWritable (effects_of result)
  lending_writes mid new done none after (Ok acted) nothing stayed still acts ended =
      sent_apart acted.value acted.effects
      (steps_write old new (events.Receive m) (Ok values.Nothing) (effects_lending (Ok acted)) stayed.1 (lending_steps mid new done none after (Ok acted) nothing still acts ended)).0
  lending_writes mid new done none after (Err fault) nothing stayed still acts ended = tt

  -- after it the vat rests, and what it keeps is within the sizes, if both was so before
  pub lending_stays : (mid new : State) (done : Result (Option BorrowedCall) StepFault) (none after : List Effect) (result : Result (Acted (Option BorrowedCall)) VatFault) → none ≡ [] → Stays old → old.is_closed ≡ false
      → ActsLending (Receives old m) done none after mid → LendingEnds mid done after result new → Stays new
  lending_stays mid new done none after result nothing stayed still acts ended =
      let step = lending_steps mid new done none after result nothing still acts ended in (
        λ open_. step_keeps old new (events.Receive m) (answered (λ _. values.Nothing) result) (effects_lending result) (stayed.0 still) open_ step,
        (steps_write old new (events.Receive m) (answered (λ _. values.Nothing) result) (effects_lending result) stayed.1 step).1,
      )

  -- after its own part it holds within the event
  pub lending_within : (mid : State) (done : Result (Option BorrowedCall) StepFault) (none after : List Effect) → BetweenEvents old → old.is_closed ≡ false → ActsLending (Receives old m) done none after mid
      → IfOk done (λ _. Within mid None [])
  lending_within mid (Ok lent) none after rested still acts = receives_within old m (deliveries lent ++ acts.0, mid) (rested still) acts.2
  lending_within mid (Err step_fault) none after rested still acts = tt
