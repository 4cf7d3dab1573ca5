use Rattle.std.proofs.Common.{◌≡◌, take}
use Rattle.cp_rpc.proofs.promised_answer.TransformView.transform.Given as goal

abbrev pub invariant-loop-i : goal.invariant-loop-i
invariant-loop-i g l = l.ops.items ≡ take l.i l.self
