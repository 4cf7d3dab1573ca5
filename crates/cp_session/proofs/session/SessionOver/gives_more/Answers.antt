use Rattle.std.proofs.Common.{inl, inr, refl}
use Rattle.std.proofs.lemmas.Bool.{false≢true}
use Rattle.cp_session.proofs.session.SessionOver.gives_more.Goals as goal

pub returns-then-not-is_stopped-clause-more : goal.returns-then-not-is_stopped-clause-more
returns-then-not-is_stopped-clause-more g c = λ e. (
  λ stopped. false≢true (c.if-not-is_stopped.ensures.1 stopped),
  c.has_more.ensures.more e,
)

pub returns-then-not-is_stopped-clause-none : goal.returns-then-not-is_stopped-clause-none
returns-then-not-is_stopped-clause-none g c = λ e. inr (c.has_more.ensures.none e)

pub returns-else-not-is_stopped-clause-none : goal.returns-else-not-is_stopped-clause-none
returns-else-not-is_stopped-clause-none g c = λ e. inl (c.if-not-is_stopped.ensures.0 refl)
