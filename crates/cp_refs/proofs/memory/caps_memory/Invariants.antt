use Rattle.std.proofs.Common.{◌≡◌, take}
use Rattle.cp_refs.specs.Memory.{caps_memory, counted}
use Rattle.cp_refs.proofs.memory.caps_memory.Given as goal

-- what the capabilities so far take
abbrev pub invariant-loop-cap : goal.invariant-loop-cap
invariant-loop-cap l = l.bytes ≡ counted (caps_memory (take l.cap-index l.caps))
