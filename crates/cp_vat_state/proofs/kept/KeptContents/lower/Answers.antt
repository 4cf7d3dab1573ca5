use Rattle.cp_vat_state.proofs.kept.KeptContents.lower.Goals as goal

pub returns : goal.returns
returns c n is = record { held = c.lower_all.ensures; taken = c.lowered-self.ensures n is }
