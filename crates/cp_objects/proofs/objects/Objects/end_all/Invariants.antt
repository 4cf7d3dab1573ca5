use Rattle.cp_objects.specs.AnyObject.{any_object}
use Rattle.cp_objects.specs.Objects.{EndsAll, ObjectsState, objects_of}
use Rattle.cp_objects.proofs.objects.Objects.end_all.Given as goal

-- once the others ended, after those that did, all did
abbrev pub invariant-loop : goal.invariant-loop
invariant-loop g l = (last : ObjectsState g.row.O.Denot) → EndsAll (any_object g.O.ServedObject.makes) (objects_of l.self) last → EndsAll (any_object g.O.ServedObject.makes) (objects_of l.fn.self) last
