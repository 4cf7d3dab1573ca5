use Rattle.net_host.proofs.Serving.{hears_nothing, hears_one}
use Rattle.net_host.specs.HostedConnections.{served_of}
use Rattle.net_host.proofs.hosted_connection.HostedConnection.note_event.Goals as goal

pub returns-in_default : goal.returns-in_default
returns-in_default g c = hears_nothing (served_of g.S.DrivenSession.state g.D.Socket.flow c.args.self.now) _ c.in_default.ensures

pub returns : goal.returns
returns g c = hears_one (served_of g.S.DrivenSession.state g.D.Socket.flow c.args.self.now) _ _ _ c.in-Some.ensures c.handle.ensures
