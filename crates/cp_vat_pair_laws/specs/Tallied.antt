-- A vat's tables beside its messages: what the Ledger says of them. (rpc.capnp: "Four Tables".)
use Rattle.std.specs.Prelude.{◌≡◌, ℕ, ltb, false, if◌then◌else◌, ◌||◌, Bool, List, Option, Some, None, is_some}
use Rattle.std.specs.List.{list_any}
use Rattle.std.specs.Option.{option_map}
use Rattle.std.specs.FinMap.{get}
use Rattle.cp_tables.specs.Counted.{count_of}
use Rattle.cp_tables.specs.declared.exchange.Exchange.{Exchange}
use Rattle.cp_tables.specs.declared.exchange.Stage.{Stage}
use Rattle.cp_refs.specs.declared.call.Origin.TheVariants as origins
use Rattle.cp_vat_machine.specs.InUse.{waiting_calls}
use Rattle.cp_vat_machine.specs.Local.{is_origin}
use Rattle.cp_vat_machine.specs.State.{State, new_state}
use Rattle.cp_vat_machine.specs.Run.{Moment, Steps}
use Rattle.cp_vat_machine.specs.declared.entry.AnswerEntry.{AnswerEntry}
use Rattle.cp_vat_machine.specs.declared.entry.QuestionEntry.{QuestionEntry}
use Rattle.cp_vat_pair_laws.specs.Ledger.{past_of, export_count, import_count, question_stage, answer_stage}
use Rattle.cp_vat_pair_laws.specs.LocalQuestions.{LocalQuestion, local_question, while_called}

-- the stage of a question that the peer knows, as its Call or Bootstrap was sent
abbrev pub asked_stage : Option (Exchange QuestionEntry) → Option Stage
asked_stage None = None
asked_stage (Some entry) = if entry.kept.is_sent then Some entry.stage else None

-- the stage of a local question, which the peer doesn't know, as its Call wasn't sent
abbrev pub unsent_stage : Option (Exchange QuestionEntry) → Option Stage
unsent_stage None = None
unsent_stage (Some entry) = if entry.kept.is_sent then None else Some entry.stage

-- the call of this question waits
abbrev pub is_waiting : State → ℕ → Bool
is_waiting s q = list_any (λ call. is_origin (origins.Own q) call.origin) (waiting_calls s)

-- The call of a local question is under way if it waits, or was delivered to an object that hasn't answered it.
abbrev pub local_stage : State → ℕ → LocalQuestion → Option Stage
local_stage s q question = while_called (is_waiting s q || question.is_delivered) question.stage

abbrev pub kept_stage : Option (Exchange AnswerEntry) → Option Stage
kept_stage entry = option_map (λ entry. entry.stage) entry

-- Exports and imports are counted as the Ledger says, a number without an entry as 0, and there is an entry exactly where something is counted.
-- Questions that were sent and answers are at the stage that it says. Local questions stand from their call until they have their outcome and were
-- finished. There are no others.
pub record AreTallied (s : State) (history : List Moment) : Type 0 where
  pub exports : (e : ℕ) → count_of s.counts.exports e ≡ export_count (past_of history) e
  pub imports : (i : ℕ) → count_of s.counts.imports i ≡ import_count (past_of history) i
  pub exported : (e : ℕ) → is_some (get s.counts.exports e) ≡ ltb 0 (export_count (past_of history) e)
  pub imported : (i : ℕ) → is_some (get s.counts.imports i) ≡ ltb 0 (import_count (past_of history) i)
  pub questions : (q : ℕ) → asked_stage (get s.entries.questions q) ≡ question_stage (past_of history) q
  pub local : (q : ℕ) → unsent_stage (get s.entries.questions q) ≡ local_stage s q (local_question history q)
  pub answers : (a : ℕ) → kept_stage (get s.entries.answers a) ≡ answer_stage (past_of history) a

-- So it is after every list of steps of a new vat that leaves it open, whatever its peer sends and its application does.
abbrev pub LedgerAgrees : Type 0
LedgerAgrees =
    (bootstrap : Option ℕ) (history : List Moment) (last : State) → Steps (new_state bootstrap) history last → last.is_closed ≡ false
    → AreTallied last history
