use Rattle.cp_vat_pair_laws.proofs.counts.LedgerAgrees.{ledger_agrees}
use Rattle.cp_vat_pair_laws.proofs.ledger.ledger_agrees.Goals as goal

pub returns : goal.returns
returns c = ledger_agrees
