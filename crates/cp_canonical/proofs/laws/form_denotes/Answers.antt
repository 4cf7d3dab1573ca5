use Rattle.cp_canonical.proofs.Cuts.{cut-again}
use Rattle.cp_canonical.proofs.Forms.{form-denotes}
use Rattle.cp_canonical.proofs.laws.form_denotes.Goals as goal

pub returns-clause-left : goal.returns-clause-left
returns-clause-left c = form-denotes

pub returns-clause-same : goal.returns-clause-same
returns-clause-same c = cut-again
