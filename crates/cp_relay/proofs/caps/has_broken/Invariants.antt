use Rattle.std.proofs.Common.{◌≡◌, false, take}
use Rattle.std.specs.List.{list_any}
use Rattle.cp_relay.specs.State.{is_broken}
use Rattle.cp_relay.proofs.caps.has_broken.Given as goal

abbrev pub invariant-loop-i : goal.invariant-loop-i
invariant-loop-i l = list_any (is_broken l.refused) (take l.i l.table) ≡ false
