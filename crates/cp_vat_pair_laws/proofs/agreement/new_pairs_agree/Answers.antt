use Rattle.cp_vat_pair_laws.proofs.NewPairs.{new_agree}
use Rattle.cp_vat_pair_laws.proofs.agreement.new_pairs_agree.Goals as goal

pub returns : goal.returns
returns c = new_agree
