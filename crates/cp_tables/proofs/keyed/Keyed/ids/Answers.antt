use Rattle.std.proofs.Common.{sym, ◌∙◌}
use Rattle.cp_tables.proofs.TableLemmas.{keys-listed}
use Rattle.cp_tables.proofs.keyed.Keyed.ids.Goals as goal

pub returns : goal.returns
returns g c = rw (← c.self.view_is) (c.keys.ensures.rest ∙ sym (keys-listed c.self.inside.entries c.keys.ensures.ordered))
