use Rattle.std.proofs.Common.{◌≡◌, length, take}
use Rattle.std.specs.List.{flat_map}
use Rattle.std.specs.Io.KnownBytes.{Appends}
use Rattle.cp_packed.specs.Words.{bytes_of}
use Rattle.cp_words.specs.Segments.{words_of}
use Rattle.cp_frame.proofs.send.send_segments.Given as goal

abbrev pub invariant-loop-segment : goal.invariant-loop-segment
invariant-loop-segment g l = (length l.buffer ≡ length l.fn.buffer) × Appends (g.W.Write.contents l.fn.to) (g.W.Write.contents l.to) (flat_map bytes_of (take l.segment-index (words_of l.segments)))
