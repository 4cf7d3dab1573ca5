use Rattle.std.proofs.Common.{refl, ap}
use Rattle.net_sockets.specs.Reading.{flow_of}
use Rattle.net_client.proofs.Passing.{waits_none, waits_same}
use Rattle.net_client.proofs.duplex.Duplex.take_in.Goals as goal

pub returns-then-not-is_readable : goal.returns-then-not-is_readable
returns-then-not-is_readable g c = waits_same c.wait.ensures refl

pub returns-then-len-self : goal.returns-then-len-self
returns-then-len-self g c = waits_none _

pub returns-in_err-fill : goal.returns-in_err-fill
returns-in_err-fill g c = waits_same (ap (λ s. flow_of g.D.Socket.flow s) c.in_err-fill.ensures.unread) c.in_err-fill.ensures.same
