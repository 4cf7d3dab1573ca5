use Rattle.cp_objects.proofs.Sets.{seen-remove}
use Rattle.cp_objects.proofs.number_set.NumberSet.remove.Goals as goal

pub returns : goal.returns
returns c = rw (← c.self.view_is) (seen-remove c.self.inside.numbers c.remove.new.self c.args.number c.remove.ensures.updates)
