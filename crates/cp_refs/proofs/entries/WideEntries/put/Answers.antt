use Rattle.cp_tables.proofs.TableLemmas.{listed-insert}
use Rattle.cp_refs.proofs.entries.WideEntries.put.Goals as goal

pub returns-clause-put : goal.returns-clause-put
returns-clause-put g c = rw (← c.self.view_is) (listed-insert c.self.inside.entries c.insert.new.self c.args.id c.args.entry c.in_default.ensures.updates)
