use Rattle.std.proofs.Common.{◌≡◌, ◌++◌, take, drop}
use Rattle.cp_objects.specs.Numbers.{without}
use Rattle.cp_objects.proofs.numbers.remove_first.Given as goal

-- what was looked at stays, and the number is sought in the rest
abbrev pub invariant-loop-place : goal.invariant-loop-place
invariant-loop-place l =
    (l.numbers.items ≡ l.fn.numbers.items)
    × (without l.number l.fn.numbers.items ≡ take l.place l.fn.numbers.items ++ without l.number (drop l.place l.fn.numbers.items))
