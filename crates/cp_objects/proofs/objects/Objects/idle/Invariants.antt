use Rattle.std.proofs.Common.{◌≡◌, ◌++◌}
use Rattle.cp_objects.specs.Objects.{idle_among, idle_of, objects_of}
use Rattle.cp_objects.proofs.objects.Objects.idle.Given as goal

-- those that were found, before those of the rest, are all
abbrev pub invariant-loop-number : goal.invariant-loop-number
invariant-loop-number g l = l.idle.items ++ idle_among (objects_of l.self) l.number-iterator ≡ idle_of (objects_of l.self)
