use Rattle.cp_vat_state.proofs.Sets.{seen-insert}
use Rattle.cp_vat_state.proofs.own_promises.OwnPromises.insert.Goals as goal

pub returns-clause-put : goal.returns-clause-put
returns-clause-put c = rw (← c.self.view_is) (seen-insert c.self.inside.ids c.insert.new.self c.args.id c.in_ok-insert.ensures.updates)
