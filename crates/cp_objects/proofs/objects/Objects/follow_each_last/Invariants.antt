use Rattle.std.proofs.Common.{◌≡◌}
use Rattle.cp_objects.specs.Objects.{objects_of, followed_last}
use Rattle.cp_objects.proofs.objects.Objects.follow_each_last.Given as goal

-- once the others are done, after those that were, all are
abbrev pub invariant-loop-effect : goal.invariant-loop-effect
invariant-loop-effect g l = followed_last l.number l.effect-iterator.rest.items (objects_of l.self) ≡ followed_last l.number l.fn.effects.items (objects_of l.fn.self)
