use Rattle.std.proofs.Common.{length}
use Rattle.cp_frame.proofs.Sends.{SendsFront}
use Rattle.cp_frame.proofs.send.send_packed_words.Given as goal

abbrev pub invariant-packing : goal.invariant-packing
invariant-packing g l = SendsFront (g.W.Write.contents l.fn.to) (g.W.Write.contents l.to) l.fn.buffer.items l.buffer.items l.words l.left

abbrev pub decreases-packing : goal.decreases-packing
decreases-packing g l = length l.left
