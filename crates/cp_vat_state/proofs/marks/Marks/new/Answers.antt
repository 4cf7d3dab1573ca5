use Rattle.cp_vat_state.proofs.Under.{under-empty}
use Rattle.cp_vat_state.proofs.marks.Marks.new.Goals as goal

pub invariant_of-result : goal.invariant_of-result
invariant_of-result c = rw (c.new.ensures, c.new-2.ensures, c.new-3.ensures, c.new-4.ensures) under-empty
