use Rattle.test_vat.proofs.LanePairs.{number_is_again}
use Rattle.test_vat.proofs.pair_rows.number_again.Goals as goal

pub returns : goal.returns
returns c = number_is_again
