use Rattle.cp_tables.proofs.TableLemmas.{get-listed, listed-remove}
use Rattle.cp_refs.proofs.entries.WideEntries.remove.Goals as goal

pub returns-clause-value : goal.returns-clause-value
returns-clause-value g c = rw (← c.self.view_is, get-listed) c.remove.ensures.value

pub returns-clause-removed : goal.returns-clause-removed
returns-clause-removed g c = rw (← c.self.view_is) (listed-remove c.self.inside.entries c.remove.new.self c.args.id c.remove.ensures.updates)
