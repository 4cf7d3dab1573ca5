use Rattle.test_vat.proofs.CountPairs.{answer_keeps_export}
use Rattle.test_vat.proofs.pair_rows.answer_keeps_export.Goals as goal

pub returns : goal.returns
returns c = answer_keeps_export
