use Rattle.std.proofs.Common.{◌≡◌, ◌++◌, take}
use Rattle.std.specs.List.{flat_map}
use Rattle.cp_packed.specs.Words.{bytes_of}
use Rattle.cp_frame.specs.Frame.{padded_table}
use Rattle.cp_words.specs.Segments.{words_of}
use Rattle.cp_frame.proofs.write.write_plain.Given as goal

abbrev pub invariant-loop-segment : goal.invariant-loop-segment
invariant-loop-segment l = l.out.items ≡ (l.fn.out.items ++ padded_table (words_of l.segments)) ++ flat_map bytes_of (take l.segment-index (words_of l.segments))
