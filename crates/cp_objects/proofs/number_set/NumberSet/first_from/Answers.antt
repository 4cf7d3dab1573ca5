use Rattle.cp_objects.proofs.Sets.{seen_first}
use Rattle.cp_objects.proofs.number_set.NumberSet.first_from.Goals as goal

pub returns : goal.returns
returns c = rw (← c.self.view_is) (seen_first c.self.inside.numbers c.args.number c.first_key.result c.first_key.ensures)
