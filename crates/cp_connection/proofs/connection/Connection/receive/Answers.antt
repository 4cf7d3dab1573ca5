use Rattle.std.proofs.lemmas.Result.{err_from_is_err_and}
use Rattle.cp_connection.proofs.Finishing.{receives_of}
use Rattle.cp_connection.proofs.connection.Connection.receive.Goals as goal

pub returns-in_err-count-clause-unreceived : goal.returns-in_err-count-clause-unreceived
returns-in_err-count-clause-unreceived c =
    let p = err_from_is_err_and c.from_residual.result c.from_residual.ensures.1 in
    rw (p.1, p.2, ← c.self.view_is) c.in_err-count.ensures.unreceived

pub returns-clause-received : goal.returns-clause-received
returns-clause-received c = rw (← c.self.view_is) (receives_of c.in_ok-count.ensures.received)
