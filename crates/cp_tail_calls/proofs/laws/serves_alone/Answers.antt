use Rattle.cp_tail_calls.proofs.VatRuns.{serves_alone}
use Rattle.cp_tail_calls.proofs.laws.serves_alone.Goals as goal

pub returns : goal.returns
returns c = serves_alone
