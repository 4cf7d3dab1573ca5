use Rattle.test_vat.proofs.NoRuns as never
use Rattle.test_vat.proofs.never.never_other_way_round.Goals as goal

pub returns : goal.returns
returns c = never.not_other_way_round
