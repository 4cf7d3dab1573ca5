use Rattle.cp_vat_pair_laws.proofs.counts.Expected.{lowers_fit, held_is_there, held_is_all}
use Rattle.cp_vat_pair_laws.proofs.export_counts.counts_hold.Goals as goal

pub returns-clause-lowers : goal.returns-clause-lowers
returns-clause-lowers c = lowers_fit

pub returns-clause-there : goal.returns-clause-there
returns-clause-there c = held_is_there

pub returns-clause-quiet : goal.returns-clause-quiet
returns-clause-quiet c = held_is_all
