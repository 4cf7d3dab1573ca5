use Rattle.cp_tables.proofs.TableLemmas.{listed-insert}
use Rattle.cp_servants.proofs.awaited.Awaited.put.Goals as goal

pub returns : goal.returns
returns c = rw (← c.self.view_is) (listed-insert c.self.inside.origins c.insert.new.self c.args.ticket c.args.origin c.in_ok-insert.ensures.updates)
