-- What follows where the Return of an open question comes.
use Rattle.std.proofs.Common.{◌≡◌, ℕ, true, not, List, Option, Some, Result, Ok, Err, if◌then◌else◌, refl, sym, subst}
use Rattle.std.specs.FinMap.{get}
use Rattle.cp_tables.specs.Table.{Table}
use Rattle.cp_tables.specs.declared.counted.Counted.{Counted}
use Rattle.cp_tables.specs.declared.exchange.Exchange.{Exchange}
use Rattle.cp_tables.specs.declared.exchange.Stage.TheVariants as stages
use Rattle.cp_messages.specs.declared.returned.Return.{Return}
use Rattle.cp_refs.specs.declared.cap.Cap.{Cap}
use Rattle.cp_refs.specs.declared.outcome.Outcome.{Outcome}
use Rattle.cp_vat_machine.specs.State.{State, with_exports}
use Rattle.cp_vat_machine.specs.Then.{Done, Then, Unless, fault_if}
use Rattle.cp_vat_machine.specs.Receiving.{release_exports}
use Rattle.cp_vat_machine.specs.Asking.{OnReturn, ReturnOf, ReturnBy, Settles, ReceivesReturned, is_asked}
use Rattle.cp_vat_machine.specs.declared.effect.Effect.{Effect}
use Rattle.cp_vat_machine.specs.declared.entry.QuestionEntry.{QuestionEntry}
use Rattle.cp_vat_machine.specs.declared.fault.PeerFault.{PeerFault}
use Rattle.cp_vat_machine.specs.declared.fault.PeerFault.TheVariants as faults
use Rattle.cp_vat_state.specs.Halts.{Acts, Leaves}
use Rattle.cp_vat_state.specs.declared.step_fault.StepFault.{StepFault}
use Rattle.cp_vat_state.specs.declared.step_fault.StepFault.TheVariants as halts
use Rattle.cp_vat.specs.Receiving.{Begins}
use Rattle.cp_vat.proofs.Acting.{acts_by}

-- The question is open, and the params' exports were lowered if the peer asked for it: what was returned is taken in, and settles the question.
pub begins_open : (old : State) (r : Return) (entry : Exchange QuestionEntry) (exports : Table (Counted Cap)) → Some entry ≡ get old.entries.questions r.answer_id
    → true ≡ is_asked entry.kept.is_sent entry.stage → entry.stage ≡ stages.Open
    → Ok exports ≡ (if r.release_param_caps then release_exports old.counts.exports entry.kept.mentions else Ok old.counts.exports)
    → (out : Result Done PeerFault) → Then (ReceivesReturned (with_exports old exports) r.returned) (λ taken. Settles taken.1 r.answer_id entry.kept.forwards taken.0) out
    → OnReturn old r out
begins_open old r entry exports there asked is_open lowered out is =
    subst (λ o. ReturnOf old r o out) there
    (subst (λ b. Unless (fault_if (not b) faults.UnknownQuestion) rule out) asked
    (Ok exports, lowered, subst (λ stage. ReturnBy (with_exports old exports) r entry.kept stage out) (sym is_open) is))
  where
    rule : Result Done PeerFault → Type 0
    rule out =
        Then
        (λ exports. exports ≡ (if r.release_param_caps then release_exports old.counts.exports entry.kept.mentions else Ok old.counts.exports))
        (λ exports. ReturnBy (with_exports old exports) r entry.kept entry.stage)
        out

-- a fault that was met before anything was taken in
pub begins_at_fault : (old : State) (r : Return) (step_fault : StepFault) (mid new : State) (before after : List Effect) → Begins old r (Err step_fault) mid → Acts (OnReturn old r) (Err step_fault) before after new
begins_at_fault old r (halts.Fault fault) mid new before after fails = fails
begins_at_fault old r halts.OutOfMemory mid new before after fails = tt

module _ (old mid : State) (r : Return) (forwards : Option ℕ) (goes_on : (out : Result Done PeerFault) → Then (ReceivesReturned mid r.returned) (λ taken. Settles taken.1 r.answer_id forwards taken.0) out → OnReturn old r out) where
  -- what was returned was taken in, and it settles the question
  pub returns_settled : (last : State) (outcome : Outcome) → ReceivesReturned mid r.returned (Ok (outcome, last)) → (result : Result (Unit {0}) StepFault) (before after : List Effect) (new : State)
      → Acts (Settles last r.answer_id forwards outcome) result before after new → Acts (OnReturn old r) result before after new
  returns_settled last outcome taken result before after new settles =
      acts_by (Settles last r.answer_id forwards outcome) (OnReturn old r) result before after new (λ out is. goes_on out (Ok (outcome, last), taken, is)) settles

  -- a fault of what was returned
  pub returns_at_fault : (step_fault : StepFault) (last new : State) (before after : List Effect) → Leaves {A = Outcome} (ReceivesReturned mid r.returned) (Err step_fault) last → Acts (OnReturn old r) (Err step_fault) before after new
  returns_at_fault (halts.Fault fault) last new before after fails = goes_on (Err fault) (Err fault, fails, refl)
  returns_at_fault halts.OutOfMemory last new before after fails = tt
