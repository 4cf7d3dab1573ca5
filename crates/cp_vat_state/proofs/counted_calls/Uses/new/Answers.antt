use Rattle.cp_vat_state.proofs.Keeping.{none_by_calls}
use Rattle.cp_vat_state.proofs.counted_calls.Uses.new.Goals as goal

pub returns : goal.returns
returns c = none_by_calls c.new.result c.new-2.result c.new.ensures c.new-2.ensures
