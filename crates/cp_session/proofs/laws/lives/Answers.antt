use Rattle.cp_session.proofs.Living.{lives_on}
use Rattle.cp_session.proofs.laws.lives.Goals as goal

pub returns : goal.returns
returns g c = lives_on g.H.ObjectTable.table
