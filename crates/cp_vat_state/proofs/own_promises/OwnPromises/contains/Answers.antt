use Rattle.std.proofs.Common.{sym, ◌∙◌}
use Rattle.cp_vat_state.proofs.Sets.{contains-seen}
use Rattle.cp_vat_state.proofs.own_promises.OwnPromises.contains.Goals as goal

pub returns : goal.returns
returns c = rw (← c.self.view_is) (c.contains.ensures ∙ sym (contains-seen c.self.inside.ids c.args.id))
