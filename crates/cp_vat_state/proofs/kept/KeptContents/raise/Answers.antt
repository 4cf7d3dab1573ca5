use Rattle.cp_vat_state.proofs.kept.KeptContents.raise.Goals as goal

pub returns-clause-raised : goal.returns-clause-raised
returns-clause-raised c n is = record { held = c.in_ok-raise_all.ensures.raised; taken = c.in_ok-bytes.ensures n is }
