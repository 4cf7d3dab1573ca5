use Rattle.std.specs.Prelude.{refl, None}
use Rattle.test_vat.specs.LedgerRows.{local_failed, finished_failed}
use Rattle.test_vat.proofs.Playing.{is_run}
use Rattle.test_vat.proofs.ledger_rows.local_fails.Goals as goal

pub returns-clause-run : goal.returns-clause-run
returns-clause-run c = is_run None local_failed refl

pub returns-clause-ends : goal.returns-clause-ends
returns-clause-ends c = is_run None finished_failed refl
