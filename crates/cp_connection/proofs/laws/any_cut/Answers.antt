use Rattle.cp_connection.proofs.Living.{any_cut}
use Rattle.cp_connection.proofs.laws.any_cut.Goals as goal

pub returns : goal.returns
returns c = any_cut
