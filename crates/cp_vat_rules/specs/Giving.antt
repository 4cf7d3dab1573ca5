-- What is given to an answer and to a question, by their entries.
use Rattle.std.specs.Prelude.{◌≡◌, ℕ, List, [], Some, Result}
use Rattle.std.specs.FinMap.{get, insert}
use Rattle.cp_tables.specs.Table.{Table}
use Rattle.cp_tables.specs.declared.exchange.Exchange.{Exchange}
use Rattle.cp_tables.specs.declared.exchange.Stage.{Stage}
use Rattle.cp_tables.specs.declared.exchange.Stage.TheVariants as stages
use Rattle.cp_refs.specs.declared.outcome.Outcome.{Outcome}
use Rattle.cp_vat_machine.specs.Give.{GiveBy, GiveOwnBy}
use Rattle.cp_vat_machine.specs.declared.effect.Effect.{Effect}
use Rattle.cp_vat_machine.specs.declared.entry.AnswerEntry.{AnswerEntry}
use Rattle.cp_vat_machine.specs.declared.entry.QuestionEntry.{QuestionEntry}
use Rattle.cp_vat_state.specs.Halts.{Acts}
use Rattle.cp_vat_state.specs.StateOf.{state_of}
use Rattle.cp_vat_state.specs.declared.step_fault.StepFault.{StepFault}
use Rattle.cp_vat_state.specs.declared.parts.Core.{Core}

-- an answer of this stage is given, as the rule says
abbrev pub GivesAnswer : Stage → Core → ℕ → Outcome → Result (Unit {0}) StepFault → List Effect → List Effect → Core → Type 0
GivesAnswer stage old id outcome result before after new =
    (kept : AnswerEntry) → get old.answers id ≡ Some (record { stage = stage; kept = kept })
    → Acts (GiveBy (state_of old) id outcome kept stage) result before after (state_of new)

-- a question of this stage is settled, as the rule says
abbrev pub GivesQuestion : Stage → Core → ℕ → Outcome → Result (Unit {0}) StepFault → List Effect → List Effect → Core → Type 0
GivesQuestion stage old id outcome result before after new =
    (kept : QuestionEntry) → get old.questions id ≡ Some (record { stage = stage; kept = kept })
    → Acts (GiveOwnBy (state_of old) id outcome stage) result before after (state_of new)

-- an open answer was given: its results name these exports, and no promise is tied to it any more
abbrev pub NotesGiven : Table (Exchange AnswerEntry) → ℕ → List ℕ → Table (Exchange AnswerEntry) → Type 0
NotesGiven old id mentions new =
    (kept : AnswerEntry) → get old id ≡ Some (record { stage = stages.Open; kept = kept })
    → new ≡ insert old id (record { stage = stages.Returned; kept = record kept { mentions = mentions; tied = [] } })
