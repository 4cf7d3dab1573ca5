use Rattle.cp_vat_pair_laws.proofs.counts.rules.Receives.{rules_post}
use Rattle.cp_vat_pair_laws.proofs.agreement.rules_post.Goals as goal

pub returns : goal.returns
returns c = rules_post
