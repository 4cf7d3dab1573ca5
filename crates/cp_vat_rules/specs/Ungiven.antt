-- Answers and questions that aren't given, promises that aren't settled, and ways that end.
use Rattle.std.specs.Prelude.{◌≡◌, ℕ, ◌≤◌, List, Option, Some, IsTrue}
use Rattle.std.specs.List.{AllByRecursion}
use Rattle.std.specs.FinMap.{get}
use Rattle.cp_tables.specs.Table.{Table}
use Rattle.cp_tables.specs.declared.exchange.Exchange.{Exchange}
use Rattle.cp_refs.specs.Route.{HasRoute}
use Rattle.cp_refs.specs.Values.{ValueMaps}
use Rattle.cp_refs.specs.declared.cap.Cap.{Cap}
use Rattle.cp_refs.specs.declared.call.Origin.{Origin}
use Rattle.cp_refs.specs.declared.call.Origin.TheVariants as origins
use Rattle.cp_vat_machine.specs.State.{State}
use Rattle.cp_vat_machine.specs.InUse.{is_unsettled}
use Rattle.cp_vat_machine.specs.Local.{is_open_stage, one_if, tied_to}
use Rattle.cp_vat_machine.specs.declared.entry.AnswerEntry.{AnswerEntry}
use Rattle.cp_vat_machine.specs.declared.entry.QuestionEntry.{QuestionEntry}
use Rattle.cp_vat_machine.specs.declared.entry.Tied.{Tied}

-- The way of each of these capabilities ends.
abbrev pub AllEnd : ValueMaps → List Cap → Type 0
AllEnd values table = AllByRecursion (HasRoute values) table

-- A promise is tied at most once, and then it is open.
abbrev pub AreOpenOnce : Table (Option Cap) → List Tied → Type 0
AreOpenOnce promises tied = (p : ℕ) → tied_to p tied ≤ one_if (is_unsettled (get promises p))

-- The answer or the question exists and isn't given, and the promises that are tied to the answer are open.
abbrev pub IsUngiven : State → Origin → Type 0
IsUngiven s (origins.Answer a) =
    (entry : Exchange AnswerEntry) × (get s.entries.answers a ≡ Some entry) × IsTrue (is_open_stage entry.stage) × AreOpenOnce s.values.promises entry.kept.tied
IsUngiven s (origins.Own q) = (entry : Exchange QuestionEntry) × (get s.entries.questions q ≡ Some entry) × IsTrue (is_open_stage entry.stage)
