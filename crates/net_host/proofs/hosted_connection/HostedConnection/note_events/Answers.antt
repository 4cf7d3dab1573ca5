use Rattle.net_host.proofs.Serving.{hears_both, hears_none}
use Rattle.net_host.specs.HostedConnections.{served_of}
use Rattle.net_host.proofs.hosted_connection.HostedConnection.note_events.Goals as goal

pub loop-init : goal.loop-init
loop-init g c = hears_none (served_of g.S.DrivenSession.state g.D.Socket.flow c.args.self.now)

pub loop-preserved : goal.loop-preserved
loop-preserved g c = hears_both c.loop.invariant c.note_event-is_told.ensures

pub returns-then-not-is_told : goal.returns-then-not-is_told
returns-then-not-is_told g c = hears_both c.loop.invariant c.note_event-is_told.ensures
