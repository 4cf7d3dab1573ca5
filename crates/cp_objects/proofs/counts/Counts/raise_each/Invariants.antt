use Rattle.std.proofs.Common.{List, ◌++◌, take, ℕ}
use Rattle.cp_objects.specs.Counts.{AreCounts}
use Rattle.cp_objects.proofs.counts.Counts.raise_each.Given as goal

-- those that were raised, and these, are there
abbrev pub invariant-loop-place : goal.invariant-loop-place
invariant-loop-place l = (ns : List ℕ) → AreCounts l.fn.self.counts ns → AreCounts l.self.counts (take l.place l.numbers ++ ns)
