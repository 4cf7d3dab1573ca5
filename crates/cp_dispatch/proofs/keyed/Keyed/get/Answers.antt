use Rattle.cp_tables.proofs.TableLemmas.{get-listed}
use Rattle.cp_dispatch.proofs.keyed.Keyed.get.Goals as goal

pub returns : goal.returns
returns g c = rw (← c.self.view_is, get-listed) c.get.ensures.value
