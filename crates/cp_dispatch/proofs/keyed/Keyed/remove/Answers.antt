use Rattle.cp_tables.proofs.TableLemmas.{get-listed, listed-remove}
use Rattle.cp_dispatch.proofs.keyed.Keyed.remove.Goals as goal

pub returns-clause-value : goal.returns-clause-value
returns-clause-value g c = rw (← c.self.view_is, get-listed) c.remove.ensures.value

pub returns-clause-removed : goal.returns-clause-removed
returns-clause-removed g c = rw (← c.self.view_is) (listed-remove c.self.inside.values c.remove.new.self c.args.key c.remove.ensures.updates)
