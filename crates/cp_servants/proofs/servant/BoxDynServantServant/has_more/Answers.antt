use Rattle.cp_servants.proofs.Boxed.{boxed_now}
use Rattle.cp_servants.proofs.servant.BoxDynServantServant.has_more.Goals as goal

pub returns : goal.returns
returns g c = boxed_now (λ i object. (g.dyn-1.0.entry i).1.kind.says_more c.has_more.result object) c.deref_box-1.ensures.1 c.has_more.ensures
