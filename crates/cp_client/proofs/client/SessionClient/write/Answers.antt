use Rattle.std.proofs.Common.{◌<◌, ℕ, List, length, subst}
use Rattle.std.proofs.lemmas.Result.{err_from_is_err_and}
use Rattle.cp_client.specs.ConversationOf.{seen}
use Rattle.cp_client.specs.Writing.{begins, goes_on}
use Rattle.cp_client.proofs.Deciding.{some_by}
use Rattle.cp_client.proofs.Writing.{fewer_unwritten}
use Rattle.cp_client.proofs.client.SessionClient.write.Goals as goal

pub writing-init : goal.writing-init
writing-init g c = begins

pub writing-smaller : goal.writing-smaller
writing-smaller g c =
    let k = c.in_ok-write_some.ensures.writes in
    let some = some_by (length c.outgoing.result.now) c.is_empty.result c.is_empty.ensures c.writing-test.true in
    fewer_unwritten (seen g.S.DrivenSession.state g.R.Read.remaining g.W.Write.contents c.writing.self) (seen g.S.DrivenSession.state g.R.Read.remaining g.W.Write.contents c.write_some.new.self) k.0 k.1
    (subst (λ (b : List ℕ). 0 < length b) c.outgoing.ensures some) k.2

pub writing-preserved : goal.writing-preserved
writing-preserved g c =
    let k = c.in_ok-write_some.ensures.writes in
    goes_on k.0 c.writing.invariant k.2

pub returns-in_err-write_some-clause-part : goal.returns-in_err-write_some-clause-part
returns-in_err-write_some-clause-part g c =
    let p = err_from_is_err_and c.from_residual.result c.from_residual.ensures.1 in
    rw (p.1, p.2) (record { written = seen g.S.DrivenSession.state g.R.Read.remaining g.W.Write.contents c.writing.self; writes = c.writing.invariant; fails = c.in_err-write_some.ensures.failed })
