use Rattle.std.proofs.Common.{◌≡◌, take}
use Rattle.cp_refs.specs.Memory.{counted}
use Rattle.cp_dispatch.specs.Noticed.{event_memory}
use Rattle.cp_dispatch.proofs.event.event_memory.Given as goal

-- what those so far take
abbrev pub invariant-loop-place : goal.invariant-loop-place
invariant-loop-place l = l.bytes ≡ counted (event_memory (take l.place l.notices.items))
