use Rattle.cp_tables.proofs.TableLemmas.{listed-insert}
use Rattle.cp_dispatch.proofs.keyed.Keyed.put.Goals as goal

pub returns : goal.returns
returns g c = rw (← c.self.view_is) (listed-insert c.self.inside.values c.insert.new.self c.args.key c.args.value c.in_ok-insert.ensures.updates)
