use Rattle.cp_vat_laws.proofs.writable.Stepping.{steps_write}
use Rattle.cp_vat_laws.proofs.message_sizes.steps_write.Goals as goal

pub returns : goal.returns
returns c = steps_write
