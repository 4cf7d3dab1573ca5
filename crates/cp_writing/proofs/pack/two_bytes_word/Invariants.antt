use Rattle.std.proofs.Common.{◌≡◌, ◌≤◌, length, drop}
use Rattle.cp_writing.specs.Packed.{value}
use Rattle.cp_writing.proofs.pack.two_bytes_word.Given as goal

abbrev pub invariant-loop-i : goal.invariant-loop-i
invariant-loop-i l = (l.i ≤ length l.items) × (l.word ≡ value 65536 (drop l.i l.items))

abbrev pub decreases-loop-i : goal.decreases-loop-i
decreases-loop-i l = l.i
