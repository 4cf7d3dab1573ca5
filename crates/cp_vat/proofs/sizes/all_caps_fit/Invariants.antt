use Rattle.std.proofs.Common.{◌≡◌, true, take}
use Rattle.std.specs.List.{list_all}
use Rattle.cp_vat_machine.specs.Capacity.{cap_fits}
use Rattle.cp_vat.proofs.sizes.all_caps_fit.Given as goal

abbrev pub invariant-loop-cap : goal.invariant-loop-cap
invariant-loop-cap l = list_all (cap_fits) (take l.cap-index l.table) ≡ true
