use Rattle.test_vat.proofs.FinishFirst.{ends_without_export}
use Rattle.test_vat.proofs.pair_rows.finish_before_return.Goals as goal

pub returns : goal.returns
returns c = ends_without_export
