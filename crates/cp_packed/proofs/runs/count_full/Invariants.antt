use Rattle.std.proofs.Common.{◌≤◌, take}
use Rattle.std.specs.List.{AllByRecursion}
use Rattle.cp_packed.specs.Packed.{zero_bytes}
use Rattle.cp_packed.proofs.runs.count_full.Given as goal

abbrev pub invariant-loop-place : goal.invariant-loop-place
invariant-loop-place l = AllByRecursion (λ w. zero_bytes w ≤ 1) (take l.place l.words)
