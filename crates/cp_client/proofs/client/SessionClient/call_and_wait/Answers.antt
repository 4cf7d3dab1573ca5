use Rattle.std.proofs.lemmas.Result.{err_from_is_err_and}
use Rattle.cp_client.specs.ConversationOf.{seen}
use Rattle.cp_client.specs.Waits.{unasked, untold, unfinished}
use Rattle.cp_client.proofs.client.SessionClient.call_and_wait.Goals as goal

pub returns-in_err-question-clause-unanswered : goal.returns-in_err-question-clause-unanswered
returns-in_err-question-clause-unanswered g c =
    let p = err_from_is_err_and c.from_residual.result c.from_residual.ensures.1 in
    rw (p.1, p.2) (unasked c.in_err-question.ensures.unasked)

pub returns-in_err-outcome-clause-unanswered : goal.returns-in_err-outcome-clause-unanswered
returns-in_err-outcome-clause-unanswered g c =
    let p = err_from_is_err_and c.from_residual-in_err-outcome.result c.from_residual-in_err-outcome.ensures.1 in
    rw (p.1, p.2)
    (untold c.in_ok-question.question.number (seen g.S.DrivenSession.state g.R.Read.remaining g.W.Write.contents c.call.new.self)
    c.in_ok-question.ensures.asks c.in_err-outcome.ensures.stops)

pub returns-in-Err-clause-unanswered : goal.returns-in-Err-clause-unanswered
returns-in-Err-clause-unanswered g c =
    unfinished c.in_ok-question.question.number c.in_ok-outcome.outcome (seen g.S.DrivenSession.state g.R.Read.remaining g.W.Write.contents c.call.new.self)
    (seen g.S.DrivenSession.state g.R.Read.remaining g.W.Write.contents c.wait.new.self)
    c.in_ok-question.ensures.asks c.in_ok-outcome.ensures.waits c.in-Err.ensures.undone

pub returns-in-Ok-clause-answered : goal.returns-in-Ok-clause-answered
returns-in-Ok-clause-answered g c = record {
  q = c.in_ok-question.question.number;
  called = seen g.S.DrivenSession.state g.R.Read.remaining g.W.Write.contents c.call.new.self;
  given = seen g.S.DrivenSession.state g.R.Read.remaining g.W.Write.contents c.wait.new.self;
  asks = c.in_ok-question.ensures.asks;
  waits = c.in_ok-outcome.ensures.waits;
  finishes = c.in-Ok.ensures.finishes;
}
