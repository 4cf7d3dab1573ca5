use Rattle.cp_connection.proofs.Courses.{lives_until_abort}
use Rattle.cp_connection.proofs.laws.lives_until_abort.Goals as goal

pub returns : goal.returns
returns c = lives_until_abort
