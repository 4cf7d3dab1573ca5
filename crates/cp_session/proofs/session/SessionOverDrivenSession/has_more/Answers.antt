use Rattle.std.proofs.Common.{inl, inr, refl, length}
use Rattle.std.proofs.lemmas.Bool.{false≢true}
use Rattle.cp_session.proofs.Deciding.{less_unless}
use Rattle.cp_session.proofs.session.SessionOverDrivenSession.has_more.Goals as goal

pub returns-then-is_read-clause-more : goal.returns-then-is_read-clause-more
returns-then-is_read-clause-more g c = λ e. (c.if-is_read.ensures.0 refl, c.gives_more.ensures.more e)

pub returns-then-is_read-clause-none : goal.returns-then-is_read-clause-none
returns-then-is_read-clause-none g c = λ e. inr (c.gives_more.ensures.none e)

pub returns-else-is_read-clause-none : goal.returns-else-is_read-clause-none
returns-else-is_read-clause-none g c =
    λ e. inl (less_unless (length c.args.self.now.endpoint.connection.unwritten) c.args.self.now.limits.ahead (λ few. false≢true (c.if-is_read.ensures.1 few)))
