use Rattle.std.proofs.Common.{◌≡◌, ◌≤◌, length}
use Rattle.cp_packed.specs.Packing.{PutsFront}
use Rattle.cp_packed.proofs.packing.push_groups.Given as goal

abbrev pub invariant-packing : goal.invariant-packing
invariant-packing l =
    PutsFront l.fn.out.items l.out.items l.words l.left
    × (length l.left ≤ length l.words)
    × (length l.words ≤ l.most → l.left ≡ l.words)

abbrev pub decreases-packing : goal.decreases-packing
decreases-packing l = length l.left
