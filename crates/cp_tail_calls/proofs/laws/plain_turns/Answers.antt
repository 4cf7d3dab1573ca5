use Rattle.cp_tail_calls.proofs.Plain.{plain_turns}
use Rattle.cp_tail_calls.proofs.laws.plain_turns.Goals as goal

pub returns : goal.returns
returns c = plain_turns
