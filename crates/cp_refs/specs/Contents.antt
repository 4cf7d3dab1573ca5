-- How many bytes of memory all contents take that are kept, as they are counted.
use Rattle.std.specs.Prelude.{ℕ, ◌+◌, Option, Some, None}
use Rattle.std.specs.List.{sum_by}
use Rattle.std.specs.FinMap.{values}
use Rattle.cp_tables.specs.Table.{Table}
use Rattle.cp_refs.specs.Kept.{kept_memory}
use Rattle.cp_refs.specs.Memory.{cap_memory, gate_memory, request_memory}
use Rattle.cp_refs.specs.Values.{ValueMaps}
use Rattle.cp_refs.specs.declared.cap.Cap.{Cap}
use Rattle.cp_refs.specs.declared.call.WaitingCall.{WaitingCall}
use Rattle.cp_refs.specs.declared.outcome.Outcome.{Outcome}
use Rattle.cp_refs.specs.declared.values.QuestionState.{QuestionState}

-- a call that waits: 192 for its place, what it asks for, and the path that it waits for
abbrev pub call_memory : WaitingCall → ℕ
call_memory call = 192 + request_memory call.request + gate_memory call.gate

-- what a promise or an import came to, and what is kept of what an answer or a question came to; nothing while it is open
abbrev pub value_memory : Option Cap → ℕ
value_memory None = 0
value_memory (Some cap) = cap_memory cap

abbrev pub given_memory : Option Outcome → ℕ
given_memory None = 0
given_memory (Some outcome) = kept_memory outcome

abbrev pub question_memory : QuestionState → ℕ
question_memory question = given_memory question.outcome

-- all calls that wait, and all that promises, imports, answers and questions came to
abbrev pub calls_memory : Table WaitingCall → ℕ
calls_memory calls = sum_by call_memory (values calls)

abbrev pub values_memory : ValueMaps → ℕ
values_memory v = sum_by value_memory (values v.promises) + sum_by value_memory (values v.imports) + sum_by given_memory (values v.answers) + sum_by question_memory (values v.questions)
