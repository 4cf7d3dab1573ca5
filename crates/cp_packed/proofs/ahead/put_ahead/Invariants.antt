use Rattle.std.proofs.Common.{◌-◌, ◌≡◌, ◌≤◌, ◌*◌, [], length, take, drop}
use Rattle.cp_packed.specs.Packing.{PutsFront}
use Rattle.cp_packed.proofs.ahead.put_ahead.Given as goal

abbrev pub invariant-putting : goal.invariant-putting
invariant-putting l =
    PutsFront [] (take l.filled l.block) l.words (drop l.place l.words)
    × (l.filled ≤ 10 * l.place)
    × (l.place ≤ 65)
    × (length l.block ≡ length l.fn.block)

abbrev pub decreases-putting : goal.decreases-putting
decreases-putting l = 64 - l.place
