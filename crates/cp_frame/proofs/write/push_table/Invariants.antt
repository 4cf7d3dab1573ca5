use Rattle.std.proofs.Common.{◌≡◌, ◌-◌, ◌++◌, length, take}
use Rattle.std.specs.Int.{to_le_bytes, w32}
use Rattle.cp_frame.specs.Framed.{sizes_of, spelled}
use Rattle.cp_words.specs.Segments.{words_of}
use Rattle.cp_frame.proofs.write.push_table.Given as goal

abbrev pub invariant-loop-segment : goal.invariant-loop-segment
invariant-loop-segment l = l.out.items ≡ (l.fn.out.items ++ to_le_bytes w32 (length l.segments - 1)) ++ spelled (take l.segment-index (sizes_of (words_of l.segments)))
