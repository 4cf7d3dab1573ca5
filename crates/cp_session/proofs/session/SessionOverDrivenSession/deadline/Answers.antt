use Rattle.std.proofs.Common.{refl}
use Rattle.std.proofs.lemmas.Bool.{false≢true}
use Rattle.cp_session.proofs.Deciding.{is_none, is_one}
use Rattle.cp_session.proofs.session.SessionOverDrivenSession.deadline.Goals as goal

pub returns-then-is_stopped : goal.returns-then-is_stopped
returns-then-is_stopped g c = rw (is_one _ _ _ (c.if-is_stopped.ensures.0 refl), c.earlier-limit.ensures, c.deadline.ensures, c.ask_time.ensures) refl

pub returns : goal.returns
returns g c =
    let open_yet = is_none _ _ _ (λ stopped. false≢true (c.if-is_stopped.ensures.1 stopped)) in
    rw (open_yet, c.earlier.ensures, c.earlier-limit.ensures, c.deadline.ensures, c.ask_time.ensures, c.alarm.ensures) refl
