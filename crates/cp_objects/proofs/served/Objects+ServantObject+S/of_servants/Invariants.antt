use Rattle.std.proofs.Common.{◌≡◌}
use Rattle.cp_objects.specs.Objects.{adding_each, alone, objects_of}
use Rattle.cp_objects.specs.ServantObject.{served_each}
use Rattle.cp_objects.proofs.served.Objects+ServantObject+S.of_servants.Given as goal

-- once the others are added, after those that were, all are
abbrev pub invariant-loop-servant : goal.invariant-loop-servant
invariant-loop-servant g l = adding_each (served_each l.servant-iterator.rest.items) (objects_of l.objects) ≡ adding_each (served_each l.fn.servants.items) alone
