use Rattle.std.proofs.Common.{refl}
use Rattle.std.proofs.lemmas.Result.{err_from_is_err_and}
use Rattle.cp_client.specs.ConversationOf.{seen}
use Rattle.cp_client.proofs.Deciding.{done_or_fault}
use Rattle.cp_client.proofs.Looking.{takes_if, takes_none_if}
use Rattle.cp_client.proofs.client.SessionClient.results.Goals as goal

pub returns-in_err-outcome-clause-none : goal.returns-in_err-outcome-clause-none
returns-in_err-outcome-clause-none g c =
    let p = err_from_is_err_and c.from_residual.result c.from_residual.ensures.1 in
    rw (p.1, p.2) c.in_err-outcome.ensures.stops

pub returns-clause-came : goal.returns-clause-came
returns-clause-came g c =
    let at = seen g.S.DrivenSession.state g.R.Read.remaining g.W.Write.contents in
    takes_if g.S.DrivenSession.table (at c.args.self.now) (at c.wait.new.self) (at c.finish.new.self) c.args.question _ c.in_ok-outcome.outcome c.results_in-results.result refl
    c.in_ok-outcome.ensures.waits c.results_in-results.ensures.came (done_or_fault c.finish.result c.finish.ensures.finishes c.finish.ensures.undone)

pub returns-clause-none : goal.returns-clause-none
returns-clause-none g c =
    let at = seen g.S.DrivenSession.state g.R.Read.remaining g.W.Write.contents in
    takes_none_if g.S.DrivenSession.table (at c.args.self.now) (at c.wait.new.self) (at c.finish.new.self) c.args.question _ c.in_ok-outcome.outcome c.results_in-results.result refl
    c.in_ok-outcome.ensures.waits c.results_in-results.ensures.none (done_or_fault c.finish.result c.finish.ensures.finishes c.finish.ensures.undone)
