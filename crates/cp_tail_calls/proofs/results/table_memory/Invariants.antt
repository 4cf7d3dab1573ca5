use Rattle.std.proofs.Common.{◌≡◌, take}
use Rattle.cp_refs.specs.Memory.{counted}
use Rattle.cp_tail_calls.specs.Results.{table_memory}
use Rattle.cp_tail_calls.proofs.results.table_memory.Given as goal

-- what the descriptors so far take
abbrev pub invariant-loop-descriptor : goal.invariant-loop-descriptor
invariant-loop-descriptor l = l.bytes ≡ counted (table_memory (take l.descriptor-index l.descriptors))
