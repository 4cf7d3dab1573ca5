use Rattle.std.proofs.Common.{◌≤◌, ◌-◌, take}
use Rattle.std.specs.List.{AllByRecursion}
use Rattle.cp_packed.specs.Packed.{zero_bytes}
use Rattle.cp_packed.proofs.runs.raw_run.Given as goal

abbrev pub invariant-counting : goal.invariant-counting
invariant-counting l = record {
  within : l.run ≤ l.most;
  full : AllByRecursion (λ w. zero_bytes w ≤ 1) (take l.run l.words);
}

abbrev pub decreases-counting : goal.decreases-counting
decreases-counting l = l.most - l.run
