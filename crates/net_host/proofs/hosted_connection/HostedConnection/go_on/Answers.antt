use Rattle.std.proofs.Common.{[], inr, refl}
use Rattle.net_host.proofs.Deciding.{err_from}
use Rattle.net_host.proofs.Serving.{serves_polled, serves_rest, stops_now}
use Rattle.net_host.specs.HostedConnections.{served_of}
use Rattle.net_host.proofs.hosted_connection.HostedConnection.go_on.Goals as goal

pub returns-then-not-can_take-clause-goes_on : goal.returns-then-not-can_take-clause-goes_on
returns-then-not-can_take-clause-goes_on g c =
    ([], serves_polled (served_of g.S.DrivenSession.state g.D.Socket.flow c.args.self.now) _ c.poll.result _ c.poll.ensures.polls c.poll.ensures.runs_out, refl)

pub returns-in_err-rest-clause-fails : goal.returns-in_err-rest-clause-fails
returns-in_err-rest-clause-fails g c =
    err_from c.from_residual.result c.from_residual.ensures
    (λ error ran_out. (stops_now (serves_rest (served_of g.S.DrivenSession.state g.D.Socket.flow c.args.self.now) _ _ _ _ c.as_slice-left.ensures.value c.feed-count.ensures.fed), inr ran_out))

pub returns-clause-goes_on : goal.returns-clause-goes_on
returns-clause-goes_on g c =
    ([], rw c.in_ok-rest.ensures.items (serves_rest (served_of g.S.DrivenSession.state g.D.Socket.flow c.args.self.now) _ _ _ _ c.as_slice-left.ensures.value c.feed-count.ensures.fed), refl)
