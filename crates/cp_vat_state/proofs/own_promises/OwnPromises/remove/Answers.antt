use Rattle.cp_vat_state.proofs.Sets.{seen-remove}
use Rattle.cp_vat_state.proofs.own_promises.OwnPromises.remove.Goals as goal

pub returns : goal.returns
returns c = rw (← c.self.view_is) (seen-remove c.self.inside.ids c.remove.new.self c.args.id c.remove.ensures.updates)
