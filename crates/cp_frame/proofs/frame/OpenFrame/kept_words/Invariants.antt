use Rattle.std.proofs.Common.{◌≡◌, ◌+◌, length, sum, take}
use Rattle.cp_frame.specs.Framed.{sizes_of}
use Rattle.cp_words.specs.Segments.{words_of}
use Rattle.cp_frame.proofs.frame.OpenFrame.kept_words.Given as goal

abbrev pub invariant-loop-segment : goal.invariant-loop-segment
invariant-loop-segment l = l.words ≡ length l.self.table.items + length l.self.words.items + sum (take l.segment-index (sizes_of (words_of l.self.segments.items)))
