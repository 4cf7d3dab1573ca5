use Rattle.cp_connection.proofs.Living.{lives_run}
use Rattle.cp_connection.proofs.laws.lives.Goals as goal

pub returns : goal.returns
returns c = lives_run
