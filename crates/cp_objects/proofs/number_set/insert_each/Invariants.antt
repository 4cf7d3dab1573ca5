use Rattle.std.proofs.Common.{◌≡◌, drop}
use Rattle.cp_objects.specs.Numbers.{inserted}
use Rattle.cp_objects.proofs.number_set.insert_each.Given as goal

-- with the others, after those that were put in, it is with all
abbrev pub invariant-loop-number : goal.invariant-loop-number
invariant-loop-number l = inserted (drop l.number-index l.numbers) l.known ≡ inserted l.numbers l.fn.known
