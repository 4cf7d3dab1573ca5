use Rattle.std.proofs.Common.{◌≡◌, ℕ, List, take}
use Rattle.cp_frame.specs.Frame.{padded_table}
use Rattle.cp_packed.specs.Words.{bytes_of}
use Rattle.cp_words.specs.Segments.{words_of}
use Rattle.cp_frame.proofs.Sends.{SendsPieces}
use Rattle.cp_frame.proofs.send.send_packed_segments.Given as goal

abbrev pub invariant-loop-segment : goal.invariant-loop-segment
invariant-loop-segment g l =
    (head : List ℕ) × (padded_table (words_of l.segments) ≡ bytes_of head) × SendsPieces (g.W.Write.contents l.fn.to) (g.W.Write.contents l.to) head (take l.segment-index (words_of l.segments)) l.buffer.items
