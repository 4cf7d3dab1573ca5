use Rattle.std.proofs.Common.{◌≡◌, map, take}
use Rattle.std.specs.Prelude.{All}
use Rattle.cp_tree.specs.DraftOf.{draft_body_of}
use Rattle.cp_messages.specs.Representable.{IsDescriptor}
use Rattle.cp_messages.specs.Written.{body_written, descriptor_written}
use Rattle.cp_messages.proofs.payload.CapTable.draft.Given as goal

abbrev pub invariant-loop-descriptor : goal.invariant-loop-descriptor
invariant-loop-descriptor l = record {
  made : map draft_body_of l.items.items ≡ map body_written (map descriptor_written (take l.descriptor-index l.descriptors));
  held : All IsDescriptor (take l.descriptor-index l.descriptors);
}
