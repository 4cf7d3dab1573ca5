use Rattle.std.proofs.Common.{◌≡◌, []}
use Rattle.cp_objects.specs.Objects.{objects_of}
use Rattle.cp_objects.proofs.objects.Objects.next_settled.Given as goal

-- nothing was handed out yet, and nothing was settled
abbrev pub invariant-loop : goal.invariant-loop
invariant-loop g l = (objects_of l.self ≡ objects_of l.fn.self) × (l.fn.self.settled.items ≡ [])
