use Rattle.cp_tail_calls.proofs.Right.{right_results}
use Rattle.cp_tail_calls.proofs.laws.right_results.Goals as goal

pub returns : goal.returns
returns c = right_results
