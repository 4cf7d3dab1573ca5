use Rattle.std.specs.Prelude.{refl, None}
use Rattle.test_vat.specs.LedgerRows.{params_given_back}
use Rattle.test_vat.proofs.Playing.{is_run}
use Rattle.test_vat.proofs.ledger_rows.params_given_back.Goals as goal

pub returns-clause-run : goal.returns-clause-run
returns-clause-run c = is_run None params_given_back refl
