use Rattle.cp_servants.specs.Requests.{request_of}
use Rattle.cp_servants.proofs.Boxed.{boxed_ok}
use Rattle.cp_servants.proofs.servant.BoxDynServantServant.call_view.Goals as goal

pub returns : goal.returns
returns g c =
    boxed_ok c.args.self.now (λ i old reply new. (g.dyn-1.0.entry i).1.kind.takes old c.args.ticket (request_of c.args.request) reply new) c.call_view.result c.deref_box_mut-1.ensures.value.1 c.call_view.new.self c.call_view.ensures
