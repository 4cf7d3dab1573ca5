use Rattle.std.proofs.Common.{arith}
use Rattle.cp_vat_state.proofs.kept.KeptContents.lower_question.Goals as goal

pub returns-in-None : goal.returns-in-None
returns-in-None c = rw c.in-None.is (record { held = λ s. omega arith; taken = omega arith })
