use Rattle.std.proofs.Common.{◌≡◌, drop}
use Rattle.cp_objects.specs.Objects.{objects_of, rung}
use Rattle.cp_objects.proofs.objects.Objects.ring_each.Given as goal

-- once the others are woken, after those that were, all are
abbrev pub invariant-loop-number : goal.invariant-loop-number
invariant-loop-number g l = rung (drop l.number-index l.due) (objects_of l.self) ≡ rung l.due (objects_of l.fn.self)
