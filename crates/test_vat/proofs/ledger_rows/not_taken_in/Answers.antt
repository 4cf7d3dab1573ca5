use Rattle.std.specs.Prelude.{refl, None}
use Rattle.test_vat.specs.LedgerRows.{return_ignored, call_sent_back}
use Rattle.test_vat.proofs.Playing.{is_run}
use Rattle.test_vat.proofs.ledger_rows.not_taken_in.Goals as goal

pub returns-clause-ignored : goal.returns-clause-ignored
returns-clause-ignored c = is_run None return_ignored refl

pub returns-clause-echoed : goal.returns-clause-echoed
returns-clause-echoed c = is_run None call_sent_back refl
