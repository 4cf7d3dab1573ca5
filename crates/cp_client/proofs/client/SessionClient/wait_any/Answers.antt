use Rattle.std.proofs.Common.{length, refl}
use Rattle.std.proofs.lemmas.List.{nil_from_length}
use Rattle.std.proofs.lemmas.Result.{err_from_is_err_and}
use Rattle.cp_client.specs.ConversationOf.{seen}
use Rattle.cp_client.specs.AnyOf.{no_question, not_asked, stopped, ran_out}
use Rattle.cp_client.specs.Waits.{begins, steps}
use Rattle.cp_client.proofs.Deciding.{none_by}
use Rattle.cp_client.proofs.client.SessionClient.wait_any.Goals as goal

pub returns-then-is_empty-clause-stops : goal.returns-then-is_empty-clause-stops
returns-then-is_empty-clause-stops g c =
    no_question (nil_from_length c.args.questions.now (none_by (length c.args.questions.now) c.is_empty.result c.is_empty.ensures c.if-is_empty.true)) refl refl

pub loop-init : goal.loop-init
loop-init g c = begins

pub loop-preserved : goal.loop-preserved
loop-preserved g c =
    let none = rw c.in_default.is at c.in_ok-came.ensures.looks in
    steps c.loop.invariant none.0 none.1 c.in_ok-step.ensures.steps

pub returns-in_err-came-clause-stops : goal.returns-in_err-came-clause-stops
returns-in_err-came-clause-stops g c =
    let p = err_from_is_err_and c.from_residual.result c.from_residual.ensures.1 in
    rw (p.1, p.2) (not_asked (seen g.S.DrivenSession.state g.R.Read.remaining g.W.Write.contents c.loop.self) c.loop.invariant c.in_err-came.ensures.not_asked)

pub returns-in-Some-clause-waits : goal.returns-in-Some-clause-waits
returns-in-Some-clause-waits g c = record {
  mid = seen g.S.DrivenSession.state g.R.Read.remaining g.W.Write.contents c.loop.self;
  goes = c.loop.invariant;
  looks = rw c.in-Some.is at c.in_ok-came.ensures.looks;
}

pub returns-in_err-step-clause-stops : goal.returns-in_err-step-clause-stops
returns-in_err-step-clause-stops g c =
    let p = err_from_is_err_and c.from_residual-in_err-step.result c.from_residual-in_err-step.ensures.1 in
    let none = rw c.in_default.is at c.in_ok-came.ensures.looks in
    rw (p.1, p.2)
    (stopped (seen g.S.DrivenSession.state g.R.Read.remaining g.W.Write.contents c.loop.self)
    (seen g.S.DrivenSession.state g.R.Read.remaining g.W.Write.contents c.take_any.new.self) c.loop.invariant none.0 none.1 c.in_err-step.ensures.fails)

pub returns-clause-stops : goal.returns-clause-stops
returns-clause-stops g c = ran_out c.loop.invariant refl
