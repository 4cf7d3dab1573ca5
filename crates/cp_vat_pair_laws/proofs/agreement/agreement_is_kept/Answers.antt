use Rattle.cp_vat_pair_laws.proofs.counts.Agree.{keeps}
use Rattle.cp_vat_pair_laws.proofs.agreement.agreement_is_kept.Goals as goal

pub returns : goal.returns
returns c = keeps
