use Rattle.cp_servants.proofs.Boxed.{boxed_on_response}
use Rattle.cp_servants.proofs.servant.BoxDynServantServant.on_response.Goals as goal

pub returns : goal.returns
returns g c =
    boxed_on_response c.args.self.now (λ i old new. (g.dyn-1.0.entry i).1.kind.on_response old c.args.call_id c.args.outcome new) c.on_response.result c.deref_box_mut-1.ensures.value.1 c.on_response.new.self c.on_response.ensures
