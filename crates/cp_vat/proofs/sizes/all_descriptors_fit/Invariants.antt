use Rattle.std.proofs.Common.{◌≡◌, true, take}
use Rattle.std.specs.List.{list_all}
use Rattle.cp_vat_machine.specs.Capacity.{descriptor_fits}
use Rattle.cp_vat.proofs.sizes.all_descriptors_fit.Given as goal

abbrev pub invariant-loop-i : goal.invariant-loop-i
invariant-loop-i g l = list_all descriptor_fits (take l.i l.table) ≡ true
