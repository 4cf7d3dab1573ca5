use Rattle.cp_tail_calls.proofs.Lent.{takes_back}
use Rattle.cp_tail_calls.proofs.laws.takes_back.Goals as goal

pub returns : goal.returns
returns c = takes_back
