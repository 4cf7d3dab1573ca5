use Rattle.std.proofs.Common.{◌≡◌, ◌++◌, take, drop}
use Rattle.cp_servants.specs.Samples.{take_due}
use Rattle.cp_servants.proofs.desk.Desk.take_due.Given as goal

abbrev pub invariant-loop-place : goal.invariant-loop-place
invariant-loop-place l =
    (l.self.due.items ≡ l.fn.self.due.items)
    × (take_due l.fn.self.due.items ≡ ((take_due (drop l.place l.fn.self.due.items)).0, take l.place l.fn.self.due.items ++ (take_due (drop l.place l.fn.self.due.items)).1))
