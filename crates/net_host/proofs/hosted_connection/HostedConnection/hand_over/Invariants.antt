use Rattle.net_host.specs.HostedConnections.{Adds, HandsSome, served_of}
use Rattle.net_host.proofs.hosted_connection.HostedConnection.hand_over.Given as goal

-- some were handed out
abbrev pub invariant-loop : goal.invariant-loop
invariant-loop g l = Adds l.fn.letters.items (λ sent. HandsSome g.S.DrivenSession.table (served_of g.S.DrivenSession.state g.D.Socket.flow l.fn.self) sent (served_of g.S.DrivenSession.state g.D.Socket.flow l.self)) l.letters.items
