use Rattle.std.proofs.Common.{refl}
use Rattle.net_host.proofs.Deciding.{err_same}
use Rattle.net_host.specs.HostedConnections.{none, some}
use Rattle.net_host.proofs.hosted_connection.HostedConnection.write_some.Goals as goal

pub returns-then-count-eq0-clause-sends : goal.returns-then-count-eq0-clause-sends
returns-then-count-eq0-clause-sends g c = none refl (rw c.if-count-eq0.true at c.in_ok-count.ensures.takes) (rw c.in_ok-count.ensures.went_well refl)

pub returns-clause-sends : goal.returns-clause-sends
returns-clause-sends g c = some c.wrote.ensures (rw c.outgoing.ensures at c.in_ok-count.ensures.takes) (rw c.in_ok-count.ensures.went_well refl)

pub returns-in_err-count-clause-unsent : goal.returns-in_err-count-clause-unsent
returns-in_err-count-clause-unsent g c = err_same _ c.in_err-count.field-0.0 c.from_residual.result c.from_residual.ensures (c.in_err-count.ensures.takes_none, rw c.in_err-count.ensures.failed refl)
