use Rattle.cp_tables.proofs.TableLemmas.{get-listed, listed-remove}
use Rattle.cp_servants.proofs.awaited.Awaited.remove.Goals as goal

pub returns-clause-value : goal.returns-clause-value
returns-clause-value c = rw (← c.self.view_is, get-listed) c.remove.ensures.value

pub returns-clause-removed : goal.returns-clause-removed
returns-clause-removed c = rw (← c.self.view_is) (listed-remove c.self.inside.origins c.remove.new.self c.args.ticket c.remove.ensures.updates)
