use Rattle.std.specs.Prelude.{refl, Some}
use Rattle.test_vat.specs.LedgerRows.{resolve_given_back}
use Rattle.test_vat.proofs.Playing.{is_run}
use Rattle.test_vat.proofs.ledger_rows.resolve_given_back.Goals as goal

pub returns-clause-run : goal.returns-clause-run
returns-clause-run c = is_run (Some 0) resolve_given_back refl
