use Rattle.std.proofs.Common.{◌≡◌, ◌-◌, length}
use Rattle.c_handles.specs.Holds.{counted_from}
use Rattle.c_handles.proofs.holds.ImportHolds.give_from.Given as goal

-- what is left to be given comes to the same
abbrev pub invariant-loop-cap : goal.invariant-loop-cap
invariant-loop-cap l = counted_from l.place l.table l.self.counts ≡ counted_from l.initial.place l.table l.initial.self.counts

abbrev pub decreases-loop-cap : goal.decreases-loop-cap
decreases-loop-cap l = length l.table - l.place
