use Rattle.cp_objects.proofs.Sets.{seen-insert}
use Rattle.cp_objects.proofs.number_set.NumberSet.insert.Goals as goal

pub returns-clause-put : goal.returns-clause-put
returns-clause-put c = rw (← c.self.view_is) (seen-insert c.self.inside.numbers c.insert.new.self c.args.number c.in_ok-insert.ensures.updates)
