use Rattle.cp_vat_state.proofs.kept.KeptContents.lower_outcome.Goals as goal

pub returns : goal.returns
returns c = rw c.caps_of_outcome.ensures at (c.lower.ensures _ c.given_memory.ensures)
