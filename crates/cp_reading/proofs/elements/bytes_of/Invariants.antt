use Rattle.std.proofs.Common.{◌≡◌, ◌++◌, length, take, flat_map}
use Rattle.std.specs.Int.{to_le_bytes, w64}
use Rattle.cp_reading.proofs.elements.bytes_of.Given as goal

abbrev pub invariant-writing : goal.invariant-writing
invariant-writing l = l.items.items ++ flat_map (to_le_bytes w64) l.left ≡ flat_map (to_le_bytes w64) (take l.whole l.words)

abbrev pub decreases-writing : goal.decreases-writing
decreases-writing l = length l.left
