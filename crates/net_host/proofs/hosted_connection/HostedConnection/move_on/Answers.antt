use Rattle.cp_session.proofs.Deciding.{after_ok, if_err}
use Rattle.net_host.proofs.Deciding.{err_same}
use Rattle.net_host.proofs.Serving.{fails_then, proceeds_both}
use Rattle.net_host.proofs.hosted_connection.HostedConnection.move_on.Goals as goal

pub returns-in_err-write-clause-fails : goal.returns-in_err-write-clause-fails
returns-in_err-write-clause-fails g c = err_same _ c.in_err-write.field-0.0 c.from_residual.result c.from_residual.ensures c.in_err-write.ensures.fails

pub returns-in_err-go_on-clause-fails : goal.returns-in_err-go_on-clause-fails
returns-in_err-go_on-clause-fails g c =
    let error = c.in_err-go_on.field-0.0 in
    err_same _ error c.from_residual-in_err-go_on.result c.from_residual-in_err-go_on.ensures (fails_then error c.in_ok-write.ensures.goes_on c.in_err-go_on.ensures.fails)

pub returns-clause-goes_on : goal.returns-clause-goes_on
returns-clause-goes_on g c =
    after_ok c.write-2.result c.write-2.ensures.goes_on (λ more. proceeds_both (proceeds_both c.in_ok-write.ensures.goes_on c.in_ok-go_on.ensures.goes_on) more)

pub returns-clause-fails : goal.returns-clause-fails
returns-clause-fails g c =
    if_err c.write-2.result c.write-2.ensures.fails (λ error fails. fails_then error (proceeds_both c.in_ok-write.ensures.goes_on c.in_ok-go_on.ensures.goes_on) fails)
