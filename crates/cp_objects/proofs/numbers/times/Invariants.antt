use Rattle.std.proofs.Common.{◌≡◌, ◌≤◌, ◌+◌, drop}
use Rattle.cp_objects.specs.Counts.{times}
use Rattle.cp_objects.proofs.numbers.times.Given as goal

-- with those of the rest it is all; and no number was counted twice
abbrev pub invariant-loop-other : goal.invariant-loop-other
invariant-loop-other l = (l.count + times l.number (drop l.other-index l.numbers) ≡ times l.number l.numbers) × (l.count ≤ l.other-index)
