use Rattle.std.proofs.Common.{refl, ap}
use Rattle.std.proofs.lemmas.Result.{err_from_is_err_and}
use Rattle.cp_client.specs.Conversation.{Asked}
use Rattle.cp_client.specs.ConversationOf.{seen}
use Rattle.cp_client.proofs.Looking.{awaited_all, awaited_next, next_of}
use Rattle.cp_client.proofs.Telling.{knows_asked}
use Rattle.cp_client.proofs.client.SessionClient.take_any.Goals as goal

pub loop-question-init : goal.loop-question-init
loop-question-init g c = (c.note.ensures, tt)

pub loop-question-preserved : goal.loop-question-preserved
loop-question-preserved g c =
    let none = rw c.in_default.is at c.in_ok-outcome.ensures.taken in
    let l = c.loop-question in
    let known = seen g.S.DrivenSession.state g.R.Read.remaining g.W.Write.contents l.self in (
      knows_asked _ known c.take.new.self.asked none.1 l.invariant.0,
      awaited_next c.args.questions.now l.question-index _ known c.take.new.self.asked c.loop-question-test.true none.1 l.invariant.1 none.0,
    )

pub returns-in-Some-clause-looks : goal.returns-in-Some-clause-looks
returns-in-Some-clause-looks g c =
    let gives = rw c.in-Some.is at c.in_ok-outcome.ensures.taken in
    let l = c.loop-question in
    let known = seen g.S.DrivenSession.state g.R.Read.remaining g.W.Write.contents l.self in (
      known,
      l.invariant.0,
      next_of c.args.questions.now l.question-index _ known known.asked c.loop-question-test.true refl l.invariant.1,
      (gives.0, ap (λ (t : Asked). record known { asked = t }) gives.1),
    )

pub returns-in_err-outcome-clause-not_asked : goal.returns-in_err-outcome-clause-not_asked
returns-in_err-outcome-clause-not_asked g c =
    let p = err_from_is_err_and c.from_residual.result c.from_residual.ensures.1 in
    let k = c.in_err-outcome.ensures in
    let l = c.loop-question in
    let known = seen g.S.DrivenSession.state g.R.Read.remaining g.W.Write.contents l.self in
    let same = ap (λ q. q.asked) k.same in
    rw (p.1, p.2, k.unknown.0)
    (record {
      knows = knows_asked _ known c.take.new.self.asked same l.invariant.0;
      is = refl;
      q = _;
      next = next_of c.args.questions.now l.question-index _ known c.take.new.self.asked c.loop-question-test.true same l.invariant.1;
      not_asked = k.unknown.1;
    })

pub returns-clause-looks : goal.returns-clause-looks
returns-clause-looks g c =
    let l = c.loop-question in
    (l.invariant.0, awaited_all c.args.questions.now l.question-index (seen g.S.DrivenSession.state g.R.Read.remaining g.W.Write.contents l.self) c.loop-question-test.false l.invariant.1)
