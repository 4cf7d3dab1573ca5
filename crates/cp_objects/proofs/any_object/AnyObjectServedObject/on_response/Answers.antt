use Rattle.std.proofs.Common.{refl}
use Rattle.cp_objects.proofs.Answering.{after_ok}
use Rattle.cp_objects.proofs.any_object.AnyObjectServedObject.on_response.Goals as goal

pub returns-in-Proxy : goal.returns-in-Proxy
returns-in-Proxy g c = rw c.in-Proxy.is (_, refl, (refl, refl))

pub returns-in-Forwarder : goal.returns-in-Forwarder
returns-in-Forwarder g c =
    rw c.in-Forwarder.is (after_ok c.on_response-in-Forwarder.result c.on_response-in-Forwarder.ensures (λ told. (c.on_response-in-Forwarder.new.self, refl, told)))
