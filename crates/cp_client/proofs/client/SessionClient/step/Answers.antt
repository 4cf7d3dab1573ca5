use Rattle.std.proofs.lemmas.Result.{err_from_is_err_and}
use Rattle.cp_session.proofs.Deciding.{after_ok, if_err}
use Rattle.cp_client.specs.ConversationOf.{seen}
use Rattle.cp_client.specs.Waits.{halts, polls_on, reads_on, unwritten}
use Rattle.cp_client.proofs.client.SessionClient.step.Goals as goal

pub returns-in_err-flush-clause-fails : goal.returns-in_err-flush-clause-fails
returns-in_err-flush-clause-fails g c =
    let p = err_from_is_err_and c.from_residual.result c.from_residual.ensures.1 in
    rw (p.1, p.2) (unwritten c.in_err-flush.ensures.part)

pub returns-then-has_more-clause-steps : goal.returns-then-has_more-clause-steps
returns-then-has_more-clause-steps g c =
    polls_on (seen g.S.DrivenSession.state g.R.Read.remaining g.W.Write.contents c.flush.new.self) c.in_ok-flush.ensures.flushes (c.has_more.ensures.more c.if-has_more.true) c.poll.ensures

pub returns-clause-steps : goal.returns-clause-steps
returns-clause-steps g c =
    after_ok c.go_on.result c.go_on.ensures.goes_on
    (λ goes. reads_on (seen g.S.DrivenSession.state g.R.Read.remaining g.W.Write.contents c.flush.new.self) c.in_ok-flush.ensures.flushes (c.has_more.ensures.none c.if-has_more.false) goes)

pub returns-clause-fails : goal.returns-clause-fails
returns-clause-fails g c =
    if_err c.go_on.result c.go_on.ensures.halts
    (λ fault h. halts (seen g.S.DrivenSession.state g.R.Read.remaining g.W.Write.contents c.flush.new.self) c.in_ok-flush.ensures.flushes (c.has_more.ensures.none c.if-has_more.false) h)
