use Rattle.cp_tables.proofs.TableLemmas.{get-seen, seen-remove}
use Rattle.cp_tables.proofs.slots.Slots.remove.Goals as goal

pub returns-clause-value : goal.returns-clause-value
returns-clause-value g c = rw (← c.self.view_is, get-seen) c.try_remove.ensures.value

pub returns-clause-removed : goal.returns-clause-removed
returns-clause-removed g c = rw (← c.self.view_is) (seen-remove _ _ _ c.try_remove.ensures.updates)
