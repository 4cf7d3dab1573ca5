use Rattle.test_vat.proofs.Lanes.{in_order, without_embargo, again}
use Rattle.test_vat.proofs.pair_rows.lane_of_three_calls.Goals as goal

pub returns-clause-in_order : goal.returns-clause-in_order
returns-clause-in_order c = in_order

pub returns-clause-without_embargo : goal.returns-clause-without_embargo
returns-clause-without_embargo c = without_embargo

pub returns-clause-again : goal.returns-clause-again
returns-clause-again c = again
