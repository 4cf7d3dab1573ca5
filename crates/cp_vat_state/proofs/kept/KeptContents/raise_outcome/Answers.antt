use Rattle.cp_vat_state.proofs.Contents.{counts_more}
use Rattle.cp_vat_state.proofs.kept.KeptContents.raise_outcome.Goals as goal

pub returns-clause-raised : goal.returns-clause-raised
returns-clause-raised c = counts_more c.raise.result _ _ _ _ _ _ c.raise.ensures.raised c.caps_of_outcome.ensures c.given_memory.ensures
