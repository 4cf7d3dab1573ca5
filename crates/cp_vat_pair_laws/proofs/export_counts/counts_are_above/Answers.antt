use Rattle.cp_vat_pair_laws.proofs.numbers.Moves.{are_counted}
use Rattle.cp_vat_pair_laws.proofs.export_counts.counts_are_above.Goals as goal

pub returns : goal.returns
returns c = are_counted
