use Rattle.std.proofs.Common.{length}
use Rattle.cp_stream.specs.Kept.{WritesOn}
use Rattle.cp_stream.proofs.write.write_whole.Given as goal

abbrev pub invariant-writing : goal.invariant-writing
invariant-writing g l = WritesOn g.W.Write.contents l.fn.to l.to l.fn.bytes l.left

abbrev pub decreases-writing : goal.decreases-writing
decreases-writing g l = length l.left
