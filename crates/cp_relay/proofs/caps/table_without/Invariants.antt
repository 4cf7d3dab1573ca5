use Rattle.std.proofs.Common.{◌≡◌, map, take}
use Rattle.cp_relay.specs.State.{without_broken}
use Rattle.cp_relay.proofs.caps.table_without.Given as goal

abbrev pub invariant-loop-i : goal.invariant-loop-i
invariant-loop-i l = l.descriptors.items ≡ map (without_broken l.refused) (take l.i l.table)
