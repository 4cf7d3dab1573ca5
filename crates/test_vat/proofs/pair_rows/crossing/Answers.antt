use Rattle.test_vat.proofs.CountPairs.{is_crossing, ignored_is_owed}
use Rattle.test_vat.proofs.pair_rows.crossing.Goals as goal

pub returns-clause-owed : goal.returns-clause-owed
returns-clause-owed c = is_crossing

pub returns-clause-ignored : goal.returns-clause-ignored
returns-clause-ignored c = ignored_is_owed
