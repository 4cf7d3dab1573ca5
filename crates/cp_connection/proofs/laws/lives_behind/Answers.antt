use Rattle.cp_connection.proofs.Living.{lives_behind}
use Rattle.cp_connection.proofs.laws.lives_behind.Goals as goal

pub returns : goal.returns
returns c = lives_behind
