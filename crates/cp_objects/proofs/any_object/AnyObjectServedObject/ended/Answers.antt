use Rattle.std.proofs.Common.{inl, refl}
use Rattle.cp_objects.proofs.Answering.{after_ok}
use Rattle.cp_objects.proofs.any_object.AnyObjectServedObject.ended.Goals as goal

pub returns-in-Proxy : goal.returns-in-Proxy
returns-in-Proxy g c = rw c.in-Proxy.is (after_ok c.end.result c.end.ensures (λ left. inl (_, refl, (left, refl))))

pub returns-in-Forwarder : goal.returns-in-Forwarder
returns-in-Forwarder g c = rw c.in-Forwarder.is (after_ok c.end-in-Forwarder.result c.end-in-Forwarder.ensures (λ left. inl (_, refl, (left, refl))))
