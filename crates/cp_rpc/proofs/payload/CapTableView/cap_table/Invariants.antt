use Rattle.std.proofs.Common.{◌≡◌, take}
use Rattle.cp_rpc.proofs.payload.CapTableView.cap_table.Given as goal

abbrev pub invariant-loop-i : goal.invariant-loop-i
invariant-loop-i g l = l.descriptors.items ≡ take l.i l.self
