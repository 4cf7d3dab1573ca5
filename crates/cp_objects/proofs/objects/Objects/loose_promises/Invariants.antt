use Rattle.std.proofs.Common.{◌≡◌, ◌++◌}
use Rattle.cp_objects.specs.Objects.{objects_of, loose_among, loose_of}
use Rattle.cp_objects.proofs.objects.Objects.loose_promises.Given as goal

-- those that were found, before those of the rest, are all
abbrev pub invariant-loop-id : goal.invariant-loop-id
invariant-loop-id g l = l.loose.items ++ loose_among (objects_of l.self) l.id-iterator ≡ loose_of (objects_of l.self)
