use Rattle.std.proofs.Common.{refl}
use Rattle.cp_objects.proofs.any_object.AnyObjectServedObject.poll.Goals as goal

pub returns-in-Proxy : goal.returns-in-Proxy
returns-in-Proxy g c = rw c.in-Proxy.is (_, refl, (refl, refl, refl))

pub returns-in_ok-poll-in-Forwarder : goal.returns-in_ok-poll-in-Forwarder
returns-in_ok-poll-in-Forwarder g c = rw c.in-Forwarder.is (c.poll-in-Forwarder.new.self, refl, (refl, c.in_ok-poll-in-Forwarder.ensures))
