use Rattle.cp_vat_state.proofs.Keeping.{none_led_to}
use Rattle.cp_vat_state.proofs.counted_embargoes.CountedEmbargoes.new.Goals as goal

pub invariant_of-result : goal.invariant_of-result
invariant_of-result c = rw c.new.ensures (none_led_to c.new-2.result c.new-2.ensures)
