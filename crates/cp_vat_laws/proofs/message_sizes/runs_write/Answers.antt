use Rattle.cp_vat_laws.proofs.writable.Stepping.{runs_write}
use Rattle.cp_vat_laws.proofs.message_sizes.runs_write.Goals as goal

pub returns : goal.returns
returns c = runs_write
