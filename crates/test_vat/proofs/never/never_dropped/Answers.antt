use Rattle.test_vat.proofs.NoRuns as never
use Rattle.test_vat.proofs.never.never_dropped.Goals as goal

pub returns : goal.returns
returns c = never.not_dropped
