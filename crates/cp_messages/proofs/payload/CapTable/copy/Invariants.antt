use Rattle.std.proofs.Common.{◌≡◌, take}
use Rattle.cp_messages.proofs.payload.CapTable.copy.Given as goal

abbrev pub invariant-loop-descriptor : goal.invariant-loop-descriptor
invariant-loop-descriptor l = l.copied.items ≡ take l.descriptor-index l.descriptors
