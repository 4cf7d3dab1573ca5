use Rattle.cp_vat_pair_laws.proofs.counts.NoFault.{are_spared}
use Rattle.cp_vat_pair_laws.proofs.expected_messages.faults_are_spared.Goals as goal

pub returns : goal.returns
returns c = are_spared
