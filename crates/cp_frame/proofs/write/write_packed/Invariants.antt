use Rattle.std.proofs.Common.{◌≡◌, ℕ, List, take}
use Rattle.cp_frame.specs.Frame.{padded_table}
use Rattle.cp_packed.specs.Words.{bytes_of}
use Rattle.cp_words.specs.Segments.{words_of}
use Rattle.cp_frame.proofs.Pieces.{WritesPieces}
use Rattle.cp_frame.proofs.write.write_packed.Given as goal

abbrev pub invariant-loop-segment : goal.invariant-loop-segment
invariant-loop-segment l = (head : List ℕ) × (padded_table (words_of l.segments) ≡ bytes_of head) × WritesPieces l.fn.out.items head (take l.segment-index (words_of l.segments)) l.out.items
