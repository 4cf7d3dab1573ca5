use Rattle.cp_servants.proofs.Boxed.{boxed_ok}
use Rattle.cp_servants.proofs.servant.BoxDynServantServant.call.Goals as goal

pub returns : goal.returns
returns g c =
    boxed_ok c.args.self.now (λ i old reply new. (g.dyn-1.0.entry i).1.kind.takes old c.args.ticket c.args.request reply new) c.call.result c.deref_box_mut-1.ensures.value.1 c.call.new.self c.call.ensures
