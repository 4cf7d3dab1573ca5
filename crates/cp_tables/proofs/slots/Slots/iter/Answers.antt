use Rattle.std.proofs.Common.{sym, ◌∙◌}
use Rattle.cp_tables.proofs.TableLemmas.{entries-seen}
use Rattle.cp_tables.proofs.slots.Slots.iter.Goals as goal

pub returns : goal.returns
returns g c = rw (← c.self.view_is) (c.iter.ensures.rest ∙ sym (entries-seen c.self.inside.slab))
