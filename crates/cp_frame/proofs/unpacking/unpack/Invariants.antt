use Rattle.std.proofs.Common.{[], length}
use Rattle.cp_packed.specs.Unpacking.{nothing, pending_of}
use Rattle.cp_frame.specs.Bulk.{TakesWithin}
use Rattle.cp_frame.proofs.unpacking.unpack.Given as goal

abbrev pub invariant-unpacking : goal.invariant-unpacking
invariant-unpacking l = TakesWithin l.limit [] nothing l.bytes l.words.items (pending_of l.group) l.left

abbrev pub decreases-unpacking : goal.decreases-unpacking
decreases-unpacking l = length l.left
