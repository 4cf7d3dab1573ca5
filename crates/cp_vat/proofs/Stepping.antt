-- Calls of the application, and messages, are steps of the machine.
use Rattle.std.proofs.Common.{◌≡◌, ◌≢◌, ◌⊎◌, inl, inr, false, List, [], ◌++◌, None, Result, Ok, Err, IfOk, refl, ap, ◌∙◌}
use Rattle.cp_messages.specs.declared.message.Message.{Message}
use Rattle.cp_vat_machine.specs.State.{State}
use Rattle.cp_vat_machine.specs.Step.{Does, Receives, Step, ran_out, refused, did, received, faulted}
use Rattle.cp_vat_machine.specs.declared.acted.Acted.{Acted}
use Rattle.cp_vat_machine.specs.declared.effect.Effect.{Effect}
use Rattle.cp_vat_machine.specs.declared.event.Event.{Event}
use Rattle.cp_vat_machine.specs.declared.event.Event.TheVariants as events
use Rattle.cp_vat_machine.specs.declared.event.Value.{Value}
use Rattle.cp_vat_machine.specs.declared.event.Value.TheVariants as values
use Rattle.cp_vat_machine.specs.declared.fault.VatFault.{VatFault}
use Rattle.cp_vat_machine.specs.declared.fault.VatFault.TheVariants as refusals
use Rattle.cp_vat_laws.specs.Within.{Within}
use Rattle.cp_vat_laws.specs.Sizes.{AreWritable, FitsOpen}
use Rattle.cp_vat_laws.proofs.writable.Stepping.{steps_write}
use Rattle.cp_vat_laws.proofs.within.Step.{does_within, receives_within, step_keeps}
use Rattle.cp_vat_state.specs.Halts.{Acts}
use Rattle.cp_vat_state.specs.declared.step_fault.StepFault.{StepFault}
use Rattle.cp_vat_state.specs.declared.step_fault.StepFault.TheVariants as halts
use Rattle.cp_vat.specs.Stepping.{answered, effects_of, Calls, Ends, CallEnds, MessageEnds, BetweenEvents, Stays}

module _ {A : Type 0} (value : A → Value) (event : Event) (old : State) where
  -- A call that an allocation failure refuses says nothing; any other refusal is the rule's, and changes nothing.
  refusal_of : (mid : State) (fault : VatFault) (before after : List Effect) → Calls (Does old event) value old (Err fault) before after mid
      → (fault ≡ refusals.OutOfMemory) ⊎ ((fault ≢ refusals.OutOfMemory) × Does old event (Err fault) × (mid ≡ old))
  refusal_of mid refusals.OutOfMemory before after h = inl refl
  refusal_of mid refusals.UnknownQuestion before after h = inr ((λ e. cc), h.0, h.1)
  refusal_of mid refusals.UnknownPromise before after h = inr ((λ e. cc), h.0, h.1)
  refusal_of mid refusals.AlreadyResolved before after h = inr ((λ e. cc), h.0, h.1)
  refusal_of mid refusals.PromiseCycle before after h = inr ((λ e. cc), h.0, h.1)
  refusal_of mid refusals.Unsettled before after h = inr ((λ e. cc), h.0, h.1)
  refusal_of mid refusals.InUse before after h = inr ((λ e. cc), h.0, h.1)
  refusal_of mid refusals.TooLarge before after h = inr ((λ e. cc), h.0, h.1)
  refusal_of mid refusals.Full before after h = inr ((λ e. cc), h.0, h.1)
  refusal_of mid refusals.Closed before after h = inr ((λ e. cc), h.0, h.1)
  refusal_of mid refusals.UnknownImport before after h = inr ((λ e. cc), h.0, h.1)

  followed : (mid new : State) (x : A) (after : List Effect) (result : Result (Acted A) VatFault) → old.is_closed ≡ false
      → (first : List Effect) × (after ≡ first) × Does old event (Ok (value x, first, mid)) → Ends mid x after result new → Step old event (answered value result) (effects_of result) new
  followed mid new x after (Ok acted) still done ended =
      rw ended.0 (did event done.0 ended.1.0 mid still done.2 ended.1.2 (ended.1.1 ∙ ap (λ l. l ++ ended.1.0) done.1))
  followed mid new x after (Err fault) still done ended = rw ended.0 (ran_out event still ended.1)

  was_refused : (mid new : State) (fault : VatFault) (after : List Effect) (result : Result (Acted A) VatFault) → old.is_closed ≡ false
      → (fault ≡ refusals.OutOfMemory) ⊎ ((fault ≢ refusals.OutOfMemory) × Does old event (Err fault) × (mid ≡ old)) → CallEnds mid (Err fault) after result new → Step old event (answered value result) (effects_of result) new
  was_refused mid new fault after result still (inl want) ended = rw (ended.0, want) (ran_out event still (ended.1 want))
  was_refused mid new fault after result still (inr done) ended = rw (ended.0, ended.2 done.0, done.2) (refused event still done.1)

  -- a call of the application is a step
  pub call_steps : (mid new : State) (done : Result A VatFault) (none after : List Effect) (result : Result (Acted A) VatFault) → none ≡ [] → old.is_closed ≡ false
      → Calls (Does old event) value old done none after mid → CallEnds mid done after result new → Step old event (answered value result) (effects_of result) new
  call_steps mid new (Ok x) none after result nothing still done ended =
      followed mid new x after result still (done.0, done.1 ∙ ap (λ l. l ++ done.0) nothing, done.2) ended
  call_steps mid new (Err fault) none after result nothing still done ended = was_refused mid new fault after result still (refusal_of mid fault none after done) ended

  -- after it the vat rests, if it did before
  call_rests : (mid new : State) (done : Result A VatFault) (none after : List Effect) (result : Result (Acted A) VatFault) → none ≡ [] → BetweenEvents old → old.is_closed ≡ false
      → Calls (Does old event) value old done none after mid → CallEnds mid done after result new → BetweenEvents new
  call_rests mid new done none after result nothing rested still acts ended open_ =
      step_keeps old new event (answered value result) (effects_of result) (rested still) open_ (call_steps mid new done none after result nothing still acts ended)

  -- each message that it sent can be written, and what the vat keeps is within the sizes, if it was before
  call_sends : (mid new : State) (done : Result A VatFault) (none after : List Effect) (result : Result (Acted A) VatFault) → none ≡ [] → FitsOpen old → old.is_closed ≡ false
      → Calls (Does old event) value old done none after mid → CallEnds mid done after result new → AreWritable (effects_of result) × FitsOpen new
  call_sends mid new done none after result nothing fits still acts ended =
      steps_write old new event (answered value result) (effects_of result) fits (call_steps mid new done none after result nothing still acts ended)

  pub call_writes : (mid new : State) (done : Result A VatFault) (none after : List Effect) (result : Result (Acted A) VatFault) → none ≡ [] → Stays old → old.is_closed ≡ false
      → Calls (Does old event) value old done none after mid → CallEnds mid done after result new → AreWritable (effects_of result)
  call_writes mid new done none after result nothing stayed still acts ended = (call_sends mid new done none after result nothing stayed.1 still acts ended).0

  pub call_stays : (mid new : State) (done : Result A VatFault) (none after : List Effect) (result : Result (Acted A) VatFault) → none ≡ [] → Stays old → old.is_closed ≡ false
      → Calls (Does old event) value old done none after mid → CallEnds mid done after result new → Stays new
  call_stays mid new done none after result nothing stayed still acts ended =
      (call_rests mid new done none after result nothing stayed.0 still acts ended, (call_sends mid new done none after result nothing stayed.1 still acts ended).1)

  -- after its own part it holds within the event
  pub call_within : (mid : State) (done : Result A VatFault) (none after : List Effect) → BetweenEvents old → old.is_closed ≡ false → Calls (Does old event) value old done none after mid
      → IfOk done (λ _. Within mid None [])
  call_within mid (Ok x) none after rested still acts = does_within old event (value x, acts.0, mid) (rested still) acts.2
  call_within mid (Err fault) none after rested still acts = tt

module _ (m : Message) (old : State) where
  taken : (mid new : State) (x : Unit {0}) (after : List Effect) (result : Result (Acted (Unit {0})) VatFault) → old.is_closed ≡ false
      → (first : List Effect) × (after ≡ first) × Receives old m (Ok (first, mid)) → Ends mid x after result new → Step old (events.Receive m) (answered (λ _. values.Nothing) result) (effects_of result) new
  taken mid new x after (Ok acted) still done ended =
      received m done.0 ended.1.0 mid still done.2 ended.1.2 (ended.1.1 ∙ ap (λ l. l ++ ended.1.0) done.1)
  taken mid new x after (Err fault) still done ended = rw ended.0 (ran_out (events.Receive m) still ended.1)

  -- a message is a step
  pub message_steps : (mid new : State) (done : Result (Unit {0}) StepFault) (none after : List Effect) (result : Result (Acted (Unit {0})) VatFault) → none ≡ [] → old.is_closed ≡ false
      → Acts (Receives old m) done none after mid → MessageEnds mid done after result new → Step old (events.Receive m) (answered (λ _. values.Nothing) result) (effects_of result) new
  message_steps mid new (Ok x) none after result nothing still done ended =
      taken mid new x after result still (done.0, done.1 ∙ ap (λ l. l ++ done.0) nothing, done.2) ended
  message_steps mid new (Err (halts.Fault fault)) none after (Ok acted) nothing still done ended = rw ended.0 (faulted m still done ended.1)
  message_steps mid new (Err (halts.Fault fault)) none after (Err refusal) nothing still done ended = rw ended.0 (ran_out (events.Receive m) still ended.1)
  message_steps mid new (Err halts.OutOfMemory) none after result nothing still done ended = rw ended.0 (ran_out (events.Receive m) still ended.1)

  -- after it the vat rests, if it did before
  message_rests : (mid new : State) (done : Result (Unit {0}) StepFault) (none after : List Effect) (result : Result (Acted (Unit {0})) VatFault) → none ≡ [] → BetweenEvents old → old.is_closed ≡ false
      → Acts (Receives old m) done none after mid → MessageEnds mid done after result new → BetweenEvents new
  message_rests mid new done none after result nothing rested still acts ended open_ =
      step_keeps old new (events.Receive m) (answered (λ _. values.Nothing) result) (effects_of result) (rested still) open_ (message_steps mid new done none after result nothing still acts ended)

  -- each message that it sent can be written, and what the vat keeps is within the sizes, if it was before
  message_sends : (mid new : State) (done : Result (Unit {0}) StepFault) (none after : List Effect) (result : Result (Acted (Unit {0})) VatFault) → none ≡ [] → FitsOpen old → old.is_closed ≡ false
      → Acts (Receives old m) done none after mid → MessageEnds mid done after result new → AreWritable (effects_of result) × FitsOpen new
  message_sends mid new done none after result nothing fits still acts ended =
      steps_write old new (events.Receive m) (answered (λ _. values.Nothing) result) (effects_of result) fits (message_steps mid new done none after result nothing still acts ended)

  pub message_writes : (mid new : State) (done : Result (Unit {0}) StepFault) (none after : List Effect) (result : Result (Acted (Unit {0})) VatFault) → none ≡ [] → Stays old → old.is_closed ≡ false
      → Acts (Receives old m) done none after mid → MessageEnds mid done after result new → AreWritable (effects_of result)
  message_writes mid new done none after result nothing stayed still acts ended = (message_sends mid new done none after result nothing stayed.1 still acts ended).0

  pub message_stays : (mid new : State) (done : Result (Unit {0}) StepFault) (none after : List Effect) (result : Result (Acted (Unit {0})) VatFault) → none ≡ [] → Stays old → old.is_closed ≡ false
      → Acts (Receives old m) done none after mid → MessageEnds mid done after result new → Stays new
  message_stays mid new done none after result nothing stayed still acts ended =
      (message_rests mid new done none after result nothing stayed.0 still acts ended, (message_sends mid new done none after result nothing stayed.1 still acts ended).1)

  -- after its own part it holds within the event
  pub message_within : (mid : State) (done : Result (Unit {0}) StepFault) (none after : List Effect) → BetweenEvents old → old.is_closed ≡ false → Acts (Receives old m) done none after mid
      → IfOk done (λ _. Within mid None [])
  message_within mid (Ok x) none after rested still acts = receives_within old m (acts.0, mid) (rested still) acts.2
  message_within mid (Err step_fault) none after rested still acts = tt
