use Rattle.std.proofs.Common.{◌≡◌, ◌+◌, ◌*◌, length, take}
use Rattle.cp_vat.specs.Echoing.{lists_in_each}
use Rattle.cp_vat.proofs.echo.charge_table.Given as goal

abbrev pub invariant-loop-i : goal.invariant-loop-i
invariant-loop-i g l = l.left ≡ length l.table * 3 + lists_in_each (take l.i l.table) + l.rest
