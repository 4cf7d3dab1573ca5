use Rattle.cp_tail_calls.proofs.Times.{answered_once}
use Rattle.cp_tail_calls.proofs.laws.answered_once.Goals as goal

pub returns : goal.returns
returns c = answered_once
