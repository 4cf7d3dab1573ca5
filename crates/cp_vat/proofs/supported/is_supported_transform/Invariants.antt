use Rattle.std.proofs.Common.{◌≡◌, true, take}
use Rattle.std.specs.List.{list_all}
use Rattle.cp_vat_machine.specs.Supported.{is_known_op}
use Rattle.cp_vat.proofs.supported.is_supported_transform.Given as goal

abbrev pub invariant-loop-i : goal.invariant-loop-i
invariant-loop-i g l = list_all is_known_op (take l.i l.transform) ≡ true
