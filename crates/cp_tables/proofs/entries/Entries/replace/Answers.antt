use Rattle.cp_tables.proofs.TableLemmas.{get-listed, listed-insert}
use Rattle.cp_tables.proofs.entries.Entries.replace.Goals as goal

pub returns-clause-value : goal.returns-clause-value
returns-clause-value g c = rw (← c.self.view_is, get-listed) c.in-Ok.ensures.old

pub returns-clause-put : goal.returns-clause-put
returns-clause-put g c = rw (← c.self.view_is) (listed-insert c.self.inside.entries c.insert.new.self c.args.id c.args.entry c.in-Ok.ensures.updates)
