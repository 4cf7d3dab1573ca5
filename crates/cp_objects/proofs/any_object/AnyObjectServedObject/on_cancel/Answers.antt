use Rattle.std.proofs.Common.{refl}
use Rattle.cp_objects.proofs.Answering.{both_ok}
use Rattle.cp_objects.proofs.any_object.AnyObjectServedObject.on_cancel.Goals as goal

pub returns-in-Proxy : goal.returns-in-Proxy
returns-in-Proxy g c = rw c.in-Proxy.is (both_ok c.cancel.result c.cancel.ensures.told c.cancel.ensures.closed (λ told closed. (c.cancel.new.self, refl, (told, closed))))

pub returns-in-Forwarder : goal.returns-in-Forwarder
returns-in-Forwarder g c = rw c.in-Forwarder.is (_, refl, (refl, refl))
