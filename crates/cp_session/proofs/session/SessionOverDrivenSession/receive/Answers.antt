use Rattle.std.proofs.Common.{◌∙◌, refl, sym, inl, inr, length}
use Rattle.std.proofs.lemmas.Bool.{false≢true}
use Rattle.std.proofs.lemmas.Bool.Decides.{Decides-eqb}
use Rattle.cp_session.specs.Doing.{drops, holds_up, takes}
use Rattle.cp_session.specs.State.{state_of}
use Rattle.cp_session.proofs.Deciding.{if_ok, if_err, more_than_none}
use Rattle.cp_session.proofs.session.SessionOverDrivenSession.receive.Goals as goal

pub returns-then-is_draining-clause-receives : goal.returns-then-is_draining-clause-receives
returns-then-is_draining-clause-receives g c = drops (c.if-is_draining.ensures.0 refl) refl refl

pub returns-then-is_empty-clause-receives : goal.returns-then-is_empty-clause-receives
returns-then-is_empty-clause-receives g c = holds_up (λ d. false≢true (c.if-is_draining.ensures.1 d)) (inl ((Decides-eqb (length c.args.piece.now) 0).0 (sym c.is_empty.ensures ∙ c.if-is_empty.true))) refl refl

pub returns-then-not-may_take-clause-receives : goal.returns-then-not-may_take-clause-receives
returns-then-not-may_take-clause-receives g c =
    holds_up (λ d. false≢true (c.if-is_draining.ensures.1 d)) (inr (λ m. false≢true (c.if-not-may_take.ensures.1 m))) refl refl

pub returns-clause-receives : goal.returns-clause-receives
returns-clause-receives g c =
    if_ok c.take-taken.result c.take-taken.ensures.takes (λ count took. takes (state_of c.take-taken.new.self) (c.if-not-may_take.ensures.0 refl) (more_than_none _ _ c.is_empty.ensures c.if-is_empty.false) took c.settle.ensures)

pub returns-clause-untaken : goal.returns-clause-untaken
returns-clause-untaken g c =
    if_err c.take-taken.result c.take-taken.ensures.cut
    (λ fault cut. record {
      may_take = c.if-not-may_take.ensures.0 refl;
      some = more_than_none _ _ c.is_empty.ensures c.if-is_empty.false;
      mid = state_of c.take-taken.new.self;
      cut = cut;
      settles = c.settle.ensures;
    })
