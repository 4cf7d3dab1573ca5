use Rattle.std.proofs.Common.{inl, refl}
use Rattle.std.proofs.lemmas.Bool.{false≢true}
use Rattle.cp_session.proofs.Deciding.{either_second}
use Rattle.cp_session.proofs.session.SessionOverDrivenSession.takes_bytes.Goals as goal

pub returns-then-is_draining : goal.returns-then-is_draining
returns-then-is_draining g c = (λ t. inl (c.if-is_draining.ensures.0 refl), λ s. c.if-is_draining.true)

pub returns-else-is_draining : goal.returns-else-is_draining
returns-else-is_draining g c = either_second c.may_take.result (λ d. false≢true (c.if-is_draining.ensures.1 d)) c.may_take.ensures
