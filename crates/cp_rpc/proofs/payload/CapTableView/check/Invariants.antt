use Rattle.std.proofs.Common.{◌≡◌, [], take}
use Rattle.std.specs.Prelude.{flat_map}
use Rattle.cp_messages.specs.Fields.{items_of}
use Rattle.cp_messages.specs.Faults.{descriptor_faults}
use Rattle.cp_rpc.proofs.payload.CapTableView.check.Given as goal

abbrev pub invariant-loop-i : goal.invariant-loop-i
invariant-loop-i g l = flat_map descriptor_faults (take l.i (items_of (g.S.Source.seen l.source))) ≡ []
