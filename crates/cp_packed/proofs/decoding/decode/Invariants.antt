use Rattle.std.proofs.Common.{length}
use Rattle.cp_packed.specs.Decoding.{Decodes}
use Rattle.cp_packed.proofs.decoding.decode.Given as goal

abbrev pub invariant-decoding : goal.invariant-decoding
invariant-decoding l = Decodes l.bytes l.words.items l.run l.left

abbrev pub decreases-decoding : goal.decreases-decoding
decreases-decoding l = length l.left
