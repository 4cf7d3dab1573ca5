use Rattle.cp_vat_state.proofs.kept.KeptContents.lower_value.Goals as goal

pub returns : goal.returns
returns c = rw c.caps_of_value.ensures at (c.lower.ensures _ c.value_memory.ensures)
