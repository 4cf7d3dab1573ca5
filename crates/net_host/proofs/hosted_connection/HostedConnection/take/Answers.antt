use Rattle.net_host.proofs.Deciding.{err_from}
use Rattle.net_host.proofs.Fed.{parts}
use Rattle.net_host.proofs.Serving.{serves_added, serves_came, serves_ended, stops_after, takes_nothing}
use Rattle.net_host.specs.HostedConnections.{served_of}
use Rattle.net_host.proofs.hosted_connection.HostedConnection.take.Goals as goal

pub returns-in_err-extend_from_slice-in-Bytes-clause-stops : goal.returns-in_err-extend_from_slice-in-Bytes-clause-stops
returns-in_err-extend_from_slice-in-Bytes-clause-stops g c =
    rw c.in-Bytes.is
    (err_from c.from_residual.result c.from_residual.ensures
    (λ error ran_out. (stops_after (serves_came (served_of g.S.DrivenSession.state g.D.Socket.flow c.args.self.now) _ _ _ _ _ c.requires.empty (parts _ c.feed-count.result) c.feed-count.ensures.fed), ran_out)))

pub returns-in_ok-extend_from_slice-in-Bytes-clause-goes_on : goal.returns-in_ok-extend_from_slice-in-Bytes-clause-goes_on
returns-in_ok-extend_from_slice-in-Bytes-clause-goes_on g c =
    rw c.in-Bytes.is
    (serves_added (served_of g.S.DrivenSession.state g.D.Socket.flow c.args.self.now) _ _ _ _ _ c.requires.empty c.in_ok-extend_from_slice-in-Bytes.ensures.items (parts _ c.feed-count.result) c.feed-count.ensures.fed)

pub returns-in-Nothing-clause-goes_on : goal.returns-in-Nothing-clause-goes_on
returns-in-Nothing-clause-goes_on g c = rw c.in-Nothing.is (takes_nothing c.args.allowed.now (served_of g.S.DrivenSession.state g.D.Socket.flow c.args.self.now))

pub returns-in-End-clause-goes_on : goal.returns-in-End-clause-goes_on
returns-in-End-clause-goes_on g c = rw c.in-End.is (serves_ended (served_of g.S.DrivenSession.state g.D.Socket.flow c.args.self.now) _ c.end.result _ c.end.ensures.ends c.end.ensures.cut)
