use Rattle.std.proofs.Common.{◌≡◌, true, take}
use Rattle.std.specs.List.{list_all}
use Rattle.cp_messages.specs.Fitting.{descriptor_fits}
use Rattle.cp_messages.proofs.payload.CapTable.descriptors_fit.Given as goal

abbrev pub invariant-loop-descriptor : goal.invariant-loop-descriptor
invariant-loop-descriptor l = list_all descriptor_fits (take l.descriptor-index l.self) ≡ true
