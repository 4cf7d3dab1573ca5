use Rattle.std.proofs.Common.{List, ◌++◌, drop, ℕ}
use Rattle.cp_objects.specs.Counts.{AreCounts}
use Rattle.cp_objects.proofs.counts.Counts.lower_each.Given as goal

-- those that are left, and these, are there
abbrev pub invariant-loop-number : goal.invariant-loop-number
invariant-loop-number l = (ns : List ℕ) → AreCounts l.fn.self.counts (l.numbers ++ ns) → AreCounts l.self.counts (drop l.number-index l.numbers ++ ns)
