use Rattle.std.proofs.Common.{◌≡◌}
use Rattle.net_sockets.specs.Reading.{flow_of}
use Rattle.net_client.proofs.waiter.Waiter.poll.Given as goal

-- no event moves a byte
abbrev pub invariant-loop-event : goal.invariant-loop-event
invariant-loop-event g l = flow_of g.D.Socket.flow l.stream ≡ flow_of g.D.Socket.flow l.fn.stream
