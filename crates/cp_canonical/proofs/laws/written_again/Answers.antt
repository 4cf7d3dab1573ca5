use Rattle.cp_canonical.proofs.Forms.{written_again}
use Rattle.cp_canonical.proofs.laws.written_again.Goals as goal

pub returns : goal.returns
returns c = written_again
