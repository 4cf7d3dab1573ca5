use Rattle.net_host.specs.HostedConnections.{Proceeds, served_of}
use Rattle.net_host.proofs.hosted_connection.HostedConnection.write.Given as goal

-- the connection went on so far
abbrev pub invariant-loop : goal.invariant-loop
invariant-loop g l = Proceeds g.S.DrivenSession.table l.now (served_of g.S.DrivenSession.state g.D.Socket.flow l.fn.self) (served_of g.S.DrivenSession.state g.D.Socket.flow l.self)
