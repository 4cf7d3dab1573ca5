use Rattle.std.proofs.Common.{refl, ap}
use Rattle.std.proofs.lemmas.Result.{err_from_is_err_and}
use Rattle.cp_client.specs.Calls.{forgets, refuses}
use Rattle.cp_client.specs.Conversation.{Asked}
use Rattle.cp_client.specs.ConversationOf.{seen}
use Rattle.cp_client.proofs.client.SessionClient.call.Goals as goal

pub returns-in_err-number-clause-unasked : goal.returns-in_err-number-clause-unasked
returns-in_err-number-clause-unasked g c =
    let p = err_from_is_err_and c.from_residual.result c.from_residual.ensures.1 in
    rw (p.1, p.2) (refuses _ refl (record { did = c.in_err-number.ensures; same = refl }))

pub returns-in_err-ask-clause-unasked : goal.returns-in_err-ask-clause-unasked
returns-in_err-ask-clause-unasked g c =
    let p = err_from_is_err_and c.from_residual-in_err-ask.result c.from_residual-in_err-ask.ensures.1 in
    rw (p.1, p.2)
    (forgets c.in_ok-number.number refl (record {
      did = c.in_ok-number.ensures;
      same = ap (λ (t : Asked). record (seen g.S.DrivenSession.state g.R.Read.remaining g.W.Write.contents c.args.self.now) { session = g.S.DrivenSession.state c.call.new.self; asked = t }) c.in_err-ask.ensures.err;
    }))

pub returns-clause-asks : goal.returns-clause-asks
returns-clause-asks g c = record {
  did = c.in_ok-number.ensures;
  same = ap (λ (t : Asked). record (seen g.S.DrivenSession.state g.R.Read.remaining g.W.Write.contents c.args.self.now) { session = g.S.DrivenSession.state c.call.new.self; asked = t }) c.in_ok-ask.ensures.asked;
}
