use Rattle.std.proofs.Common.{◌≡◌, drop}
use Rattle.cp_objects.specs.Counts.{those_in, those_in_after}
use Rattle.cp_objects.proofs.numbers.Numbers.those_of.Given as goal

-- those of the rest, after those that were found, are all
abbrev pub invariant-loop-other : goal.invariant-loop-other
invariant-loop-other l = those_in_after l.found.items (drop l.other-index l.others) l.self ≡ those_in l.others l.self
