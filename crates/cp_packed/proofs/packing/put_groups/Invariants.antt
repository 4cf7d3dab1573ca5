use Rattle.std.proofs.Common.{◌≡◌, ◌≤◌, ◌+◌, ◌*◌, [], length, take}
use Rattle.cp_packed.specs.Packing.{PutsFront}
use Rattle.cp_packed.proofs.packing.put_groups.Given as goal

abbrev pub invariant-putting : goal.invariant-putting
invariant-putting l =
    PutsFront [] (take l.filled l.block) l.words l.left
    × (l.filled + 10 * length l.left ≤ 10 * length l.words)
    × (l.filled ≤ length l.block)
    × (length l.block ≡ length l.fn.block)

abbrev pub decreases-putting : goal.decreases-putting
decreases-putting l = length l.left
