use Rattle.cp_tables.proofs.CountedLemmas.{AreCounts-insert, count_here}
use Rattle.cp_tables.proofs.exports.Exports.kept_mut.Goals as goal

-- whatever is kept with it, its count stays
pub invariant_of-self-lent : goal.invariant_of-self-lent
invariant_of-self-lent g c =
    λ w. AreCounts-insert c.self.inside.slots c.args.id _ c.self.invariant (count_here c.self.inside.slots c.args.id c.in-Some.entry.now c.in-Some.ensures.value c.self.invariant)
