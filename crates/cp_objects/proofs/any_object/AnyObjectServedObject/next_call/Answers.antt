use Rattle.std.proofs.Common.{refl}
use Rattle.cp_objects.proofs.Answering.{if_ok}
use Rattle.cp_objects.proofs.any_object.AnyObjectServedObject.next_call.Goals as goal

pub returns-in-Proxy : goal.returns-in-Proxy
returns-in-Proxy g c = rw c.in-Proxy.is (_, refl, (refl, refl, refl))

pub returns-in-Forwarder : goal.returns-in-Forwarder
returns-in-Forwarder g c = rw c.in-Forwarder.is (if_ok c.next_call-in-Forwarder.result c.next_call-in-Forwarder.ensures (λ call made. (c.next_call-in-Forwarder.new.self, refl, made)))
