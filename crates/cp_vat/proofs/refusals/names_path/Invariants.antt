use Rattle.std.proofs.Common.{◌≡◌, false, take}
use Rattle.std.specs.List.{list_any}
use Rattle.cp_vat_machine.specs.InUse.{is_pipelined}
use Rattle.cp_vat.proofs.refusals.names_path.Given as goal

abbrev pub invariant-loop-cap : goal.invariant-loop-cap
invariant-loop-cap l = list_any (is_pipelined) (take l.cap-index l.table) ≡ false
