use Rattle.std.proofs.Common.{◌≡◌, map, take}
use Rattle.std.specs.Prelude.{All}
use Rattle.cp_tree.specs.DraftOf.{draft_body_of}
use Rattle.cp_messages.specs.Representable.{IsOp}
use Rattle.cp_messages.specs.Written.{body_written, op_written}
use Rattle.cp_messages.proofs.promised_answer.Transform.draft.Given as goal

abbrev pub invariant-loop-op : goal.invariant-loop-op
invariant-loop-op l = record {
  made : map draft_body_of l.items.items ≡ map body_written (map op_written (take l.op-index l.ops));
  held : All IsOp (take l.op-index l.ops);
}
