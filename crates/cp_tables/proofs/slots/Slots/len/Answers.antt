use Rattle.cp_tables.proofs.TableLemmas.{len-seen}
use Rattle.cp_tables.proofs.slots.Slots.len.Goals as goal

pub returns-clause-value : goal.returns-clause-value
returns-clause-value g c = rw (← c.self.view_is, len-seen) c.len.ensures
