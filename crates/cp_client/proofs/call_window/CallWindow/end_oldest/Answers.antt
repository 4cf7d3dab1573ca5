use Rattle.std.proofs.Common.{refl}
use Rattle.std.proofs.lemmas.Result.{err_from_is_err_and}
use Rattle.cp_client.specs.ConversationOf.{seen}
use Rattle.cp_client.specs.CallWindows.{failed, unfinished, untold}
use Rattle.cp_client.proofs.Streaming.{popped}
use Rattle.cp_client.proofs.call_window.CallWindow.end_oldest.Goals as goal

pub returns-in_err-wait-clause-unended : goal.returns-in_err-wait-clause-unended
returns-in_err-wait-clause-unended g c =
    let p = err_from_is_err_and c.from_residual.result c.from_residual.ensures.1 in
    rw (p.1, p.2) (untold _ refl refl c.in_err-wait.ensures.stops)

pub returns-in_err-finish-clause-unended : goal.returns-in_err-finish-clause-unended
returns-in_err-finish-clause-unended g c =
    let p = err_from_is_err_and c.from_residual-in_err-finish.result c.from_residual-in_err-finish.ensures.1 in
    rw (p.1, p.2)
    (unfinished _ _ _ refl (popped c.self.view_is c.pop_front.ensures.rest) c.in_ok-wait.ensures.waits c.in_err-finish.ensures.undone)

pub returns-in-Some-clause-unended : goal.returns-in-Some-clause-unended
returns-in-Some-clause-unended g c =
    failed _ _ _ refl (popped c.self.view_is c.pop_front.ensures.rest) c.in_ok-wait.ensures.waits c.in-Some.ensures c.in_ok-finish.ensures.finishes

pub returns-clause-ends : goal.returns-clause-ends
returns-clause-ends g c = record {
  outcome = c.in_ok-wait.field-0;
  results = c.in_default.ensures;
  told = seen g.S.DrivenSession.state g.R.Read.remaining g.W.Write.contents c.wait.new.self;
  waits = c.in_ok-wait.ensures.waits;
  finishes = c.in_ok-finish.ensures.finishes;
}
