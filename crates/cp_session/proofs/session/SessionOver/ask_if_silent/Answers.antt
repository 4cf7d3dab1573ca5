use Rattle.std.proofs.Common.{ℕ, Option, Some, refl, sym, ap, subst, ◌∙◌, length}
use Rattle.std.proofs.lemmas.Bool.{false≢true}
use Rattle.cp_session.specs.Doing.{is_silent, not_yet_silent}
use Rattle.cp_session.specs.Service.{service_of}
use Rattle.cp_session.specs.State.{linked, state_of, with_progress}
use Rattle.cp_session.specs.Sweep.{HasCome}
use Rattle.cp_session.proofs.session.SessionOver.ask_if_silent.Goals as goal

pub returns-then-not-has_come : goal.returns-then-not-has_come
returns-then-not-has_come g c =
    not_yet_silent (λ come. false≢true (c.if-not-has_come.ensures.1 (subst (λ (t : Option ℕ). HasCome c.args.now t) (sym c.ask_time.ensures) come))) refl

pub returns : goal.returns
returns g c =
    let old = state_of c.args.self.now in
    let link = c.ask.new.self.connection in
    is_silent link (subst (λ (t : Option ℕ). HasCome c.args.now t) c.ask_time.ensures (c.if-not-has_come.ensures.0 refl)) c.ask.ensures.asks
    (ap (λ s. with_progress (record old { service = s }) c.ask-2.new.self) (ap service_of c.ask.ensures.same)
    ∙ ap (λ p. with_progress (linked old link) p) c.ask-2.ensures
    ∙ ap (λ (n : ℕ). with_progress (linked old link) (record old.progress { asked = Some n })) (ap length c.outgoing-count.ensures))
