use Rattle.std.proofs.Common.{refl}
use Rattle.std.proofs.lemmas.Result.{err_from_is_err_and}
use Rattle.cp_client.specs.ConversationOf.{seen}
use Rattle.cp_client.specs.Reading.{closed, ends, goes_on, unread}
use Rattle.cp_client.proofs.client.SessionClient.go_on.Goals as goal

pub returns-in_err-is_open-clause-halts : goal.returns-in_err-is_open-clause-halts
returns-in_err-is_open-clause-halts g c =
    let p = err_from_is_err_and c.from_residual.result c.from_residual.ensures.1 in
    rw (p.1, p.2) (closed c.in_err-is_open.ensures.closed refl)

pub returns-in_err-has_bytes-clause-halts : goal.returns-in_err-has_bytes-clause-halts
returns-in_err-has_bytes-clause-halts g c =
    let p = err_from_is_err_and c.from_residual-in_err-has_bytes.result c.from_residual-in_err-has_bytes.ensures.1 in
    rw (p.1, p.2) (unread c.in_ok-is_open.ensures.is_open c.in_err-has_bytes.ensures.failed)

pub returns-then-has_bytes-clause-goes_on : goal.returns-then-has_bytes-clause-goes_on
returns-then-has_bytes-clause-goes_on g c =
    goes_on (seen g.S.DrivenSession.state g.R.Read.remaining g.W.Write.contents c.read.new.self) c.in_ok-is_open.ensures.is_open
    (rw c.if-has_bytes.true at c.in_ok-has_bytes.ensures.reads) c.take.ensures

pub returns-clause-goes_on : goal.returns-clause-goes_on
returns-clause-goes_on g c =
    ends (seen g.S.DrivenSession.state g.R.Read.remaining g.W.Write.contents c.read.new.self) c.in_ok-is_open.ensures.is_open
    (rw c.if-has_bytes.false at c.in_ok-has_bytes.ensures.reads) c.end.ensures
