use Rattle.std.proofs.Common.{sym, ◌∙◌}
use Rattle.cp_tables.proofs.TableLemmas.{len-listed}
use Rattle.cp_tables.proofs.keyed.Keyed.len.Goals as goal

pub returns-clause-value : goal.returns-clause-value
returns-clause-value g c = rw (← c.self.view_is) (c.len.ensures.len ∙ sym (len-listed c.self.inside.entries c.len.ensures.ordered))
