use Rattle.cp_vat_state.proofs.Keeping.{held_nothing}
use Rattle.cp_vat_state.proofs.Numbering.{numbered-empty}
use Rattle.cp_vat_state.proofs.resolutions.Resolutions.new.Goals as goal

pub invariant_of-result : goal.invariant_of-result
invariant_of-result c = rw (c.new.ensures, c.new-4.ensures) (held_nothing _ _ c.new-2.ensures c.new-3.ensures, numbered-empty)
