use Rattle.cp_session.proofs.Following.{written_first}
use Rattle.cp_session.proofs.laws.written_first.Goals as goal

pub returns : goal.returns
returns g c = written_first g.H.ObjectTable.table
