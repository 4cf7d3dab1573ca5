use Rattle.std.proofs.Common.{refl}
use Rattle.std.proofs.lemmas.Result.{err_from_is_err_and}
use Rattle.cp_client.specs.ConversationOf.{seen}
use Rattle.cp_client.specs.Waits.{begins, steps, not_asked, stopped, ran_out}
use Rattle.cp_client.proofs.client.SessionClient.wait.Goals as goal

pub loop-init : goal.loop-init
loop-init g c = begins

pub loop-preserved : goal.loop-preserved
loop-preserved g c =
    let none = rw c.in_default.is at c.in_ok-outcome.ensures.looks in
    steps c.loop.invariant none.0 none.1 c.in_ok-step.ensures.steps

pub returns-in_err-outcome-clause-stops : goal.returns-in_err-outcome-clause-stops
returns-in_err-outcome-clause-stops g c =
    let p = err_from_is_err_and c.from_residual.result c.from_residual.ensures.1 in
    let k = c.in_err-outcome.ensures.not_asked in
    rw (p.1, p.2) (not_asked (seen g.S.DrivenSession.state g.R.Read.remaining g.W.Write.contents c.loop.self) c.loop.invariant k.0 k.1 k.2)

pub returns-in-Some-clause-waits : goal.returns-in-Some-clause-waits
returns-in-Some-clause-waits g c =
    let gives = rw c.in-Some.is at c.in_ok-outcome.ensures.looks in
    record { mid = seen g.S.DrivenSession.state g.R.Read.remaining g.W.Write.contents c.loop.self; known = gives.0; goes = c.loop.invariant; knows = gives.1; gives = gives.2 }

pub returns-in_err-step-clause-stops : goal.returns-in_err-step-clause-stops
returns-in_err-step-clause-stops g c =
    let p = err_from_is_err_and c.from_residual-in_err-step.result c.from_residual-in_err-step.ensures.1 in
    let none = rw c.in_default.is at c.in_ok-outcome.ensures.looks in
    rw (p.1, p.2)
    (stopped (seen g.S.DrivenSession.state g.R.Read.remaining g.W.Write.contents c.loop.self)
    (seen g.S.DrivenSession.state g.R.Read.remaining g.W.Write.contents c.take_outcome.new.self) c.loop.invariant none.0 none.1 c.in_err-step.ensures.fails)

pub returns-clause-stops : goal.returns-clause-stops
returns-clause-stops g c = ran_out c.loop.invariant refl
