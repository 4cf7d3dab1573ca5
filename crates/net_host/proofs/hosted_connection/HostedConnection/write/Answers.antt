use Rattle.net_host.proofs.Deciding.{err_same}
use Rattle.net_host.proofs.Serving.{fails_now, proceeds_both, proceeds_none, proceeds_sent}
use Rattle.net_host.specs.HostedConnections.{served_of}
use Rattle.net_host.proofs.hosted_connection.HostedConnection.write.Goals as goal

pub loop-init : goal.loop-init
loop-init g c = proceeds_none c.args.now (served_of g.S.DrivenSession.state g.D.Socket.flow c.args.self.now)

pub loop-preserved : goal.loop-preserved
loop-preserved g c = proceeds_both c.loop.invariant (proceeds_sent _ _ _ _ c.in_ok-write_some.ensures.sends)

pub returns-in_err-write_some-clause-fails : goal.returns-in_err-write_some-clause-fails
returns-in_err-write_some-clause-fails g c =
    let error = c.in_err-write_some.field-0.0 in
    err_same _ error c.from_residual.result c.from_residual.ensures (fails_now error c.loop.invariant c.in_err-write_some.ensures.unsent)
