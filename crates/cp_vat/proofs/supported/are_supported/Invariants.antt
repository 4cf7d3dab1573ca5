use Rattle.std.proofs.Common.{◌≡◌, true, take}
use Rattle.std.specs.List.{list_all}
use Rattle.cp_vat_machine.specs.Supported.{is_supported_descriptor}
use Rattle.cp_vat.proofs.supported.are_supported.Given as goal

abbrev pub invariant-loop-i : goal.invariant-loop-i
invariant-loop-i g l = list_all is_supported_descriptor (take l.i l.table) ≡ true
