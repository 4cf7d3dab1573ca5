use Rattle.cp_vat_pair_laws.proofs.counts.Moves.{counts_agree}
use Rattle.cp_vat_pair_laws.proofs.export_counts.counts_agree.Goals as goal

pub returns : goal.returns
returns c = counts_agree
