use Rattle.cp_vat_pair_laws.proofs.counts.AgreeAll.{keeps_by}
use Rattle.cp_vat_pair_laws.proofs.agreement.agreement_follows.Goals as goal

pub returns : goal.returns
returns c = keeps_by
