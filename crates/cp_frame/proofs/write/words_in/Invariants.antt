use Rattle.std.proofs.Common.{◌≡◌, ◌≤◌, sum, take}
use Rattle.cp_frame.specs.Framed.{sizes_of}
use Rattle.cp_words.specs.Segments.{words_of}
use Rattle.cp_frame.proofs.write.words_in.Given as goal

abbrev pub invariant-loop-segment : goal.invariant-loop-segment
invariant-loop-segment l = record {
  words : l.words ≡ sum (take l.segment-index (sizes_of (words_of l.segments)));
  within : l.words ≤ l.limit;
}
