use Rattle.test_vat.proofs.NoRuns as never
use Rattle.test_vat.proofs.never.never_given_to_another.Goals as goal

pub returns : goal.returns
returns c = never.not_to_another
