use Rattle.cp_tables.proofs.CountedLemmas.{AreCounts-empty}
use Rattle.cp_tables.proofs.exports.Exports.new.Goals as goal

pub invariant_of-result : goal.invariant_of-result
invariant_of-result g c = rw c.new.ensures (AreCounts-empty _)
