use Rattle.std.proofs.Common.{◌∙◌}
use Rattle.cp_refs.proofs.kept_outcome.KeptOutcome.caps.Goals as goal

pub returns : goal.returns
returns c = rw (← c.self.view_is) (c.table_in.ensures ∙ c.self.invariant.has_table)
