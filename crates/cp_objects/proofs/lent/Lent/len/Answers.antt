use Rattle.std.proofs.Common.{sym, ◌∙◌}
use Rattle.cp_tables.proofs.TableLemmas.{len-listed}
use Rattle.cp_objects.proofs.lent.Lent.len.Goals as goal

pub returns : goal.returns
returns c = rw (← c.self.view_is) (c.len.ensures.len ∙ sym (len-listed c.self.inside.caps c.len.ensures.ordered))
