use Rattle.std.proofs.Common.{refl}
use Rattle.cp_objects.proofs.Answering.{after_ok}
use Rattle.cp_objects.proofs.any_object.AnyObject.take.Goals as goal

pub returns-in-Proxy : goal.returns-in-Proxy
returns-in-Proxy g c = rw c.in-Proxy.is (after_ok c.take.result c.take.ensures (λ took. (c.take.new.self, refl, took)))

pub returns-in-Forwarder : goal.returns-in-Forwarder
returns-in-Forwarder g c = rw c.in-Forwarder.is (after_ok c.take-in-Forwarder.result c.take-in-Forwarder.ensures (λ took. (c.take-in-Forwarder.new.self, refl, took)))
