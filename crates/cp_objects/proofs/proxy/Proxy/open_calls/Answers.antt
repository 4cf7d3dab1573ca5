use Rattle.std.proofs.Common.{sym, ◌∙◌}
use Rattle.cp_tables.proofs.TableLemmas.{entries-listed}
use Rattle.cp_objects.proofs.proxy.Proxy.open_calls.Goals as goal

pub returns : goal.returns
returns c = rw (← c.self.view_is) (c.iter.ensures.rest ∙ sym (entries-listed c.self.inside.pending c.iter.ensures.ordered))
