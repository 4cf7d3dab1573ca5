use Rattle.std.proofs.Common.{◌≡◌, false, take}
use Rattle.std.specs.List.{list_any}
use Rattle.cp_vat_machine.specs.InUse.{is_local_path}
use Rattle.cp_vat_state.specs.StateOf.{state_of}
use Rattle.cp_vat.proofs.refusals.names_local_path.Given as goal

abbrev pub invariant-loop-cap : goal.invariant-loop-cap
invariant-loop-cap l = list_any (is_local_path (state_of l.core)) (take l.cap-index l.table) ≡ false
