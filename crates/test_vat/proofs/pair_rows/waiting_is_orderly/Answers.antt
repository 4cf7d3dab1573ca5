use Rattle.test_vat.proofs.CountPairs.{waiting_is_orderly}
use Rattle.test_vat.proofs.pair_rows.waiting_is_orderly.Goals as goal

pub returns : goal.returns
returns c = waiting_is_orderly
