use Rattle.std.proofs.Common.{sym, ◌∙◌}
use Rattle.cp_tables.proofs.TableLemmas.{entries-listed}
use Rattle.cp_objects.proofs.forwarded_calls.ForwardedCalls.callers.Goals as goal

pub returns : goal.returns
returns c = rw (← c.self.view_is) (c.iter.ensures.rest ∙ sym (entries-listed c.self.inside.callers c.iter.ensures.ordered))
