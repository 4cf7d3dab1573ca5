use Rattle.cp_session.proofs.Following.{no_object_serves, nobody_serves}
use Rattle.cp_session.proofs.laws.nobody_serves.Goals as goal

pub returns-clause-in_a_list : goal.returns-clause-in_a_list
returns-clause-in_a_list g c = nobody_serves g.O.Servant.kind

pub returns-clause-in_objects : goal.returns-clause-in_objects
returns-clause-in_objects g c = no_object_serves g.M.ServedObject.makes
