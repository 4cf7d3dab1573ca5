use Rattle.cp_vat_laws.proofs.telling.Runs.{runs_are_in_order}
use Rattle.cp_vat_laws.proofs.call_order.runs_are_in_order.Goals as goal

pub returns : goal.returns
returns c = runs_are_in_order
