use Rattle.cp_vat_pair_laws.proofs.counts.Expected.{all_is_expected, stages_match}
use Rattle.cp_vat_pair_laws.proofs.expected_messages.messages_are_expected.Goals as goal

pub returns-clause-next : goal.returns-clause-next
returns-clause-next c = all_is_expected

pub returns-clause-quiet : goal.returns-clause-quiet
returns-clause-quiet c = stages_match
