use Rattle.std.proofs.Common.{sym, ◌∙◌}
use Rattle.cp_tables.proofs.TableLemmas.{entries-listed}
use Rattle.cp_refs.proofs.entries.WideEntries.iter.Goals as goal

pub returns : goal.returns
returns g c = rw (← c.self.view_is) (c.iter.ensures.rest ∙ sym (entries-listed c.self.inside.entries c.iter.ensures.ordered))
