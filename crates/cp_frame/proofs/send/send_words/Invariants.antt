use Rattle.std.proofs.Common.{◌≡◌, ◌++◌, ℕ, List, length}
use Rattle.std.specs.Io.KnownBytes.{Appends}
use Rattle.cp_packed.specs.Words.{bytes_of}
use Rattle.cp_frame.proofs.send.send_words.Given as goal

abbrev pub invariant-sending : goal.invariant-sending
invariant-sending g l =
    (length l.buffer ≡ length l.fn.buffer) × (done : List ℕ) × (bytes_of l.words ≡ done ++ bytes_of l.left) × Appends (g.W.Write.contents l.fn.to) (g.W.Write.contents l.to) done

abbrev pub decreases-sending : goal.decreases-sending
decreases-sending g l = length l.left
