use Rattle.std.proofs.Common.{◌∙◌}
use Rattle.cp_vat_state.proofs.Tables.{caps_in_table}
use Rattle.cp_vat_state.proofs.kept.caps_of_outcome.Goals as goal

pub returns-in-Some : goal.returns-in-Some
returns-in-Some c = rw c.in-Some.is (c.caps.ensures ∙ caps_in_table c.in-Some.outcome)
