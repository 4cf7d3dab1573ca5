use Rattle.std.proofs.Common.{◌≡◌, ◌≤◌, length, map, drop}
use Rattle.cp_writing.specs.Packed.{value, bit_of}
use Rattle.cp_writing.proofs.pack.bits_word.Given as goal

abbrev pub invariant-loop-i : goal.invariant-loop-i
invariant-loop-i l = (l.i ≤ length l.items) × (l.word ≡ value 2 (map bit_of (drop l.i l.items)))

abbrev pub decreases-loop-i : goal.decreases-loop-i
decreases-loop-i l = l.i
