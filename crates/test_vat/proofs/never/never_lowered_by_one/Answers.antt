use Rattle.test_vat.proofs.NoRuns as never
use Rattle.test_vat.proofs.never.never_lowered_by_one.Goals as goal

pub returns : goal.returns
returns c = never.not_by_one
