use Rattle.cp_session.proofs.Sharing.{all_keep}
use Rattle.cp_session.proofs.laws.keep_no_more.Goals as goal

pub returns : goal.returns
returns c = all_keep
