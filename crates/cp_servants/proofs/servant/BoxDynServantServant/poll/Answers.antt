use Rattle.cp_servants.proofs.Boxed.{boxed_ok}
use Rattle.cp_servants.proofs.servant.BoxDynServantServant.poll.Goals as goal

pub returns : goal.returns
returns g c = boxed_ok c.args.self.now (λ i old settled new. (g.dyn-1.0.entry i).1.kind.polls old settled new) c.poll.result c.deref_box_mut-1.ensures.value.1 c.poll.new.self c.poll.ensures
