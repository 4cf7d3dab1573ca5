use Rattle.std.proofs.Common.{◌≡◌}
use Rattle.net_sockets.specs.Reading.{flow_of}
use Rattle.net_client.proofs.waiter.Waiter.wait.Given as goal

-- no wait moves a byte
abbrev pub invariant-loop : goal.invariant-loop
invariant-loop g l = flow_of g.D.Socket.flow l.stream ≡ flow_of g.D.Socket.flow l.fn.stream
