use Rattle.cp_vat_state.proofs.Ending.{over-new, below-new}
use Rattle.cp_vat_state.proofs.gates.Gates.new.Goals as goal

pub invariant_of-result : goal.invariant_of-result
invariant_of-result c = rw (c.new.ensures, c.new-2.ensures) (record { below = below-new 0; whole = λ _. over-new })
