use Rattle.cp_session.proofs.Sharing.{stays}
use Rattle.cp_session.proofs.laws.stays_within.Goals as goal

pub returns : goal.returns
returns c = stays
