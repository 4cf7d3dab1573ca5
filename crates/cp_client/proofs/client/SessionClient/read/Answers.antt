use Rattle.std.proofs.Common.{◌∙◌, List, ℕ, refl, sym, ap, length}
use Rattle.std.proofs.lemmas.Bool.{false≢true}
use Rattle.std.proofs.lemmas.List.{nil_from_length}
use Rattle.cp_session.proofs.Deciding.{if_err}
use Rattle.cp_client.specs.ConversationOf.{seen}
use Rattle.cp_client.specs.Reading.{has_some}
use Rattle.cp_client.proofs.Deciding.{all_ok}
use Rattle.cp_client.proofs.Reading.{reads_by}
use Rattle.cp_client.proofs.client.SessionClient.read.Goals as goal

pub fill-requires : goal.fill-requires
fill-requires g c = nil_from_length c.args.self.now.piece (c.is_empty.ensures.0 c.if-not-is_empty.false)

pub returns-then-not-is_empty-clause-reads : goal.returns-then-not-is_empty-clause-reads
returns-then-not-is_empty-clause-reads g c = has_some (λ none. false≢true (c.if-not-is_empty.ensures.1 (ap (λ (l : List ℕ). length l) none))) refl refl

pub returns-clause-reads : goal.returns-clause-reads
returns-clause-reads g c =
    let none = nil_from_length c.args.self.now.piece (c.is_empty.ensures.0 c.if-not-is_empty.false) in
    all_ok c.fill.result c.fill.ensures.read c.fill.ensures.none_failed c.fill.ensures.some c.fill.ensures.ended
    (λ has consumed failed some ended.
    reads_by (seen g.S.DrivenSession.state g.R.Read.remaining g.W.Write.contents c.args.self.now)
    (seen g.S.DrivenSession.state g.R.Read.remaining g.W.Write.contents (record c.args.self.now { piece = c.fill.new.self; from = c.fill.new.from })) has
    (record { none_left = none; consumed = consumed; none_failed = failed; same = refl }) some ended)

pub returns-clause-failed : goal.returns-clause-failed
returns-clause-failed g c =
    let none = nil_from_length c.args.self.now.piece (c.is_empty.ensures.0 c.if-not-is_empty.false) in
    if_err c.fill.result c.fill.ensures.unread
    (λ fault k. record {
      none_left = none;
      unread = k.1;
      same = ap (λ (l : List ℕ). record (seen g.S.DrivenSession.state g.R.Read.remaining g.W.Write.contents (record c.args.self.now { from = c.fill.new.from })) { left = l }) (k.0 ∙ sym none);
    })
