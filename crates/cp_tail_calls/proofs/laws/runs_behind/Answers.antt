use Rattle.cp_tail_calls.proofs.VatRuns.{runs_behind}
use Rattle.cp_tail_calls.proofs.laws.runs_behind.Goals as goal

pub returns : goal.returns
returns c = runs_behind
