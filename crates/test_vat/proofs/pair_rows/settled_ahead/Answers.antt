use Rattle.test_vat.proofs.AheadPairs.{is_settled_ahead}
use Rattle.test_vat.proofs.pair_rows.settled_ahead.Goals as goal

pub returns : goal.returns
returns c = is_settled_ahead
