use Rattle.std.proofs.Common.{◌≡◌, ◌++◌, drop}
use Rattle.cp_objects.specs.Numbers.{local_in}
use Rattle.cp_objects.proofs.numbers.Numbers.local_in.Given as goal

-- those that were found, before those of the rest, are all
abbrev pub invariant-loop-cap : goal.invariant-loop-cap
invariant-loop-cap l = l.named ++ local_in (drop l.cap-index l.cap-items) ≡ local_in l.cap-items
