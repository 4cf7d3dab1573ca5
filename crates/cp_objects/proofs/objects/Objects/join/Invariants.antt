use Rattle.std.proofs.Common.{◌≡◌}
use Rattle.cp_objects.specs.Objects.{joined, objects_of, with_those_made}
use Rattle.cp_objects.proofs.objects.Objects.join.Given as goal

-- once the others are there, after those that are, all are
abbrev pub invariant-loop-new_cap : goal.invariant-loop-new_cap
invariant-loop-new_cap g l = joined l.new_cap-iterator.rest.items (objects_of l.self) ≡ with_those_made (objects_of l.fn.self)
