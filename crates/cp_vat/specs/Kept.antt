-- How much a vat keeps.
use Rattle.std.specs.Prelude.{ℕ, ◌+◌}
use Rattle.std.specs.FinMap.{len}
use Rattle.cp_refs.specs.Contents.{calls_memory, values_memory}
use Rattle.cp_refs.specs.Memory.{counted}
use Rattle.cp_vat_machine.specs.State.{State}

-- the number of its questions, answers and imports
abbrev pub entries_of : State → ℕ
entries_of s = len s.entries.questions + len s.entries.answers + len s.counts.imports

-- the bytes of memory that contents take: those of the calls that wait, and what promises, imports, answers and questions came to
abbrev pub contents_of : State → ℕ
contents_of s = counted (calls_memory s.waiting.calls + values_memory s.values)
