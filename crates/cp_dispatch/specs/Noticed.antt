-- How much memory the contents of events take.
use Rattle.std.specs.Prelude.{ℕ, Bool, true, false, ◌==◌, List, Option, Some, None}
use Rattle.std.specs.List.{sum_by}
use Rattle.cp_refs.specs.Memory.{outcome_memory}
use Rattle.cp_refs.specs.declared.outcome.Outcome.{Outcome}
use Rattle.cp_dispatch.specs.declared.event.SessionEvent.{SessionEvent}
use Rattle.cp_dispatch.specs.declared.event.SessionEvent.TheVariants as notices

-- the bytes of memory that the content of one event takes, and those of several
abbrev pub notice_memory : SessionEvent → ℕ
notice_memory (notices.Outcome question outcome) = outcome_memory outcome
notice_memory other = 0

abbrev pub event_memory : List SessionEvent → ℕ
event_memory noticed = sum_by notice_memory noticed

-- whether an event is an outcome of this question, and which outcome an event is
abbrev pub is_outcome_of : ℕ → SessionEvent → Bool
is_outcome_of question (notices.Outcome settled outcome) = settled == question
is_outcome_of question other = false

abbrev pub outcome_in : SessionEvent → Option Outcome
outcome_in (notices.Outcome question outcome) = Some outcome
outcome_in other = None

-- whether an event says that nothing more is taken, and why
abbrev pub is_last : SessionEvent → Bool
is_last (notices.Outcome question outcome) = false
is_last notices.Restless = false
is_last other = true
