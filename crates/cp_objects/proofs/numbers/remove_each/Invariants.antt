use Rattle.std.proofs.Common.{◌≡◌, drop}
use Rattle.cp_objects.specs.Numbers.{without_each}
use Rattle.cp_objects.proofs.numbers.remove_each.Given as goal

-- without the others, after those that went, it is without all
abbrev pub invariant-loop-other : goal.invariant-loop-other
invariant-loop-other l = without_each (drop l.other-index l.others) l.numbers.items ≡ without_each l.others l.fn.numbers.items
