-- How an entry of a question is taken out.
use Rattle.std.proofs.Common.{◌≡◌, ℕ, None, Err, refl, ap, ◌∙◌}
use Rattle.std.specs.FinMap.{get, insert, remove}
use Rattle.cp_tables.specs.Table.{Table}
use Rattle.cp_tables.specs.declared.exchange.Exchange.{Exchange}
use Rattle.cp_tables.specs.declared.counted.Counted.{Counted}
use Rattle.cp_refs.specs.declared.cap.Cap.{Cap}
use Rattle.cp_refs.proofs.Queueing.{put-back}
use Rattle.cp_vat_machine.specs.declared.entry.QuestionEntry.{QuestionEntry}
use Rattle.cp_vat_state.specs.Halts.{IfFault}
use Rattle.cp_vat_state.specs.declared.step_fault.StepFault.{StepFault}
use Rattle.cp_vat_state.specs.declared.step_fault.StepFault.TheVariants as halts
use Rattle.cp_vat_state.specs.declared.parts.Core.{Core}

-- a question that was opened and taken out again leaves the parts as they were, if the exports are as they were
pub forward_undone : (A B : Type 0) (step_fault : StepFault) (core : Core) (q : ℕ) (entry : Exchange QuestionEntry) (opened closed : Table (Exchange QuestionEntry)) (exports : Table (Counted Cap)) → get core.questions q ≡ None → opened ≡ insert core.questions q entry → closed ≡ remove opened q
    → IfFault {A = A} (Err step_fault) (exports ≡ core.exports) → IfFault {A = B} (Err step_fault) (◌≡◌ {A = Core} (record core { questions = closed; exports = exports }) core)
forward_undone A B (halts.Fault fault) core q entry opened closed exports free is gone same =
    let back : closed ≡ core.questions = gone ∙ ap (λ t. remove t q) is ∙ put-back core.questions q entry free in
    rw (back, same) refl
forward_undone A B halts.OutOfMemory core q entry opened closed exports free is gone same = tt
