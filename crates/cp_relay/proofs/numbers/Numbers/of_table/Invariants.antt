use Rattle.std.proofs.Common.{◌≡◌, ◌++◌, drop}
use Rattle.cp_relay.specs.References.{hosted_numbers}
use Rattle.cp_relay.proofs.numbers.Numbers.of_table.Given as goal

abbrev pub invariant-loop-i : goal.invariant-loop-i
invariant-loop-i l = l.items.items ++ hosted_numbers (drop l.i l.table) ≡ hosted_numbers l.table
