-- Questions that are returned.
use Rattle.std.specs.Prelude.{◌≡◌, ℕ, true, Option, Some, None, [], IsTrue}
use Rattle.std.specs.List.{AllByRecursion}
use Rattle.std.specs.FinMap.{get}
use Rattle.cp_tables.specs.declared.exchange.Exchange.{Exchange}
use Rattle.cp_refs.specs.declared.outcome.Outcome.{Outcome}
use Rattle.cp_vat_machine.specs.State.{State, none_over}
use Rattle.cp_vat_machine.specs.InUse.{caps_of}
use Rattle.cp_vat_machine.specs.Local.{is_open_stage}
use Rattle.cp_vat_machine.specs.declared.entry.QuestionEntry.{QuestionEntry}
use Rattle.cp_vat_laws.specs.Within.{Within, IsFit}

-- A question awaits its Return: it was sent and isn't settled, and no gate is over.
pub record AwaitsReturn (s : State) (q : ℕ) (forwards : Option ℕ) : Type 0 where
  pub within : Within s None []
  pub still : s.waiting.over ≡ none_over
  pub entry : Exchange QuestionEntry
  pub there : get s.entries.questions q ≡ Some entry
  pub unsettled : IsTrue (is_open_stage entry.stage)
  pub sent : entry.kept.is_sent ≡ true
  pub forwards_ : entry.kept.forwards ≡ forwards

-- A question may be settled to an outcome: it was sent and isn't settled, and what the outcome names is fit to be a value.
pub record MaySettle (s : State) (q : ℕ) (forwards : Option ℕ) (outcome : Outcome) : Type 0 where
  pub within : Within s None []
  pub entry : Exchange QuestionEntry
  pub there : get s.entries.questions q ≡ Some entry
  pub unsettled : IsTrue (is_open_stage entry.stage)
  pub sent : entry.kept.is_sent ≡ true
  pub forwards_ : entry.kept.forwards ≡ forwards
  pub fit : AllByRecursion (IsFit s) (caps_of outcome)
