use Rattle.std.proofs.Common.{refl, inl, inr}
use Rattle.std.proofs.lemmas.Bool.{false≢true}
use Rattle.cp_session.specs.State.{state_of}
use Rattle.cp_session.proofs.session.SessionOver.go_by.Goals as goal

pub returns-then-is_stopped : goal.returns-then-is_stopped
returns-then-is_stopped g c = inr (c.if-is_stopped.ensures.0 refl, refl)

pub returns : goal.returns
returns g c = inl (λ stopped. false≢true (c.if-is_stopped.ensures.1 stopped), state_of c.ask_if_silent.new.self, c.ask_if_silent.ensures, c.pass_time.ensures)
