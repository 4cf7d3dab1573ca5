use Rattle.cp_vat_state.proofs.Indexing.{indexed-empty}
use Rattle.cp_vat_state.proofs.exports.Exported.new.Goals as goal

pub invariant_of-result : goal.invariant_of-result
invariant_of-result c = rw (c.new.ensures, c.new-2.ensures, c.new-3.ensures) indexed-empty
