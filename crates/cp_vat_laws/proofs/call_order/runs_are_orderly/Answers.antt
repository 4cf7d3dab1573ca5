use Rattle.cp_vat_laws.proofs.order.Runs.{runs_are_orderly}
use Rattle.cp_vat_laws.proofs.call_order.runs_are_orderly.Goals as goal

pub returns : goal.returns
returns c = runs_are_orderly
