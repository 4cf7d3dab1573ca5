use Rattle.cp_vat_pair_laws.proofs.numbers.Changes.{changes_keep}
use Rattle.cp_vat_pair_laws.proofs.numbers.Receives.{rules_change}
use Rattle.cp_vat_pair_laws.proofs.export_counts.counts_change.Goals as goal

pub returns-clause-rules : goal.returns-clause-rules
returns-clause-rules c = rules_change

pub returns-clause-keep : goal.returns-clause-keep
returns-clause-keep c = changes_keep
