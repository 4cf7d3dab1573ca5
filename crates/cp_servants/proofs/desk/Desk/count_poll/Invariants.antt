use Rattle.std.proofs.Common.{◌≡◌, ◌++◌, map, take, drop}
use Rattle.cp_servants.specs.Samples.{polled}
use Rattle.cp_servants.proofs.desk.Desk.count_poll.Given as goal

abbrev pub invariant-loop-due : goal.invariant-loop-due
invariant-loop-due l = l.due-items ≡ map polled (take l.due-index l.fn.self.due.items) ++ drop l.due-index l.fn.self.due.items
