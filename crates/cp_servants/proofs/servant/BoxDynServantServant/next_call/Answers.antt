use Rattle.cp_servants.proofs.Boxed.{boxed_next_calls}
use Rattle.cp_servants.proofs.servant.BoxDynServantServant.next_call.Goals as goal

pub returns : goal.returns
returns g c = boxed_next_calls c.args.self.now (λ i old next_call new. (g.dyn-1.0.entry i).1.kind.next_calls old next_call new) c.next_call.result c.deref_box_mut-1.ensures.value.1 c.next_call.new.self c.next_call.ensures
