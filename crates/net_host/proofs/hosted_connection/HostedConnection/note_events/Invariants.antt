use Rattle.net_host.specs.HostedConnections.{Hears, served_of}
use Rattle.net_host.proofs.hosted_connection.HostedConnection.note_events.Given as goal

-- the events so far were handed out
abbrev pub invariant-loop : goal.invariant-loop
invariant-loop g l = Hears g.S.DrivenSession.table (served_of g.S.DrivenSession.state g.D.Socket.flow l.fn.self) (served_of g.S.DrivenSession.state g.D.Socket.flow l.self)
