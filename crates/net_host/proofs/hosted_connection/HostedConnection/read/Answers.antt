use Rattle.std.proofs.Common.{◌∙◌, inr, ap, refl}
use Rattle.cp_session.proofs.Deciding.{after_ok, if_err}
use Rattle.net_sockets.specs.Reading.{failure_of, flow_of}
use Rattle.net_host.proofs.Deciding.{err_same}
use Rattle.net_host.proofs.Serving.{fails_now, proceeds_none}
use Rattle.net_host.specs.HostedConnections.{served_of}
use Rattle.net_host.proofs.hosted_connection.HostedConnection.read.Goals as goal

pub returns-in_err-got-clause-fails : goal.returns-in_err-got-clause-fails
returns-in_err-got-clause-fails g c =
    let error = c.in_err-got.field-0.0 in
    err_same _ error c.from_residual.result c.from_residual.ensures (fails_now error (proceeds_none c.args.allowed.now (served_of g.S.DrivenSession.state g.D.Socket.flow c.args.self.now)) (c.in_err-got.ensures.gives_none, rw c.in_err-got.ensures.failed refl))

pub returns-clause-goes_on : goal.returns-clause-goes_on
returns-clause-goes_on g c =
    after_ok c.take.result (rw c.in_ok-got.ensures.went_well at c.take.ensures.goes_on)
    (λ takes. (_, takes (flow_of g.D.Socket.flow c.args.self.now.stream) c.in_ok-got.ensures.gives, ap (λ s. failure_of s) c.take.ensures.same ∙ c.in_ok-got.ensures.went_well))

pub returns-clause-fails : goal.returns-clause-fails
returns-clause-fails g c = if_err c.take.result (rw c.in_ok-got.ensures.went_well at c.take.ensures.stops) (λ error stops. ((_, stops.0 (flow_of g.D.Socket.flow c.args.self.now.stream) c.in_ok-got.ensures.gives), inr stops.1))
