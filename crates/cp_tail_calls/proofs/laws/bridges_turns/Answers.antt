use Rattle.cp_tail_calls.proofs.Bridging.{bridges_turns}
use Rattle.cp_tail_calls.proofs.laws.bridges_turns.Goals as goal

pub returns : goal.returns
returns c = bridges_turns
