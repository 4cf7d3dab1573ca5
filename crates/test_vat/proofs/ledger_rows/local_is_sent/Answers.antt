use Rattle.std.specs.Prelude.{refl, None}
use Rattle.test_vat.specs.LedgerRows.{local_sent}
use Rattle.test_vat.proofs.Playing.{is_run}
use Rattle.test_vat.proofs.ledger_rows.local_is_sent.Goals as goal

pub returns-clause-run : goal.returns-clause-run
returns-clause-run c = is_run None local_sent refl
