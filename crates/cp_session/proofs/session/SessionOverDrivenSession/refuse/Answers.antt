use Rattle.std.proofs.Common.{refl, ap, ◌∙◌}
use Rattle.std.proofs.lemmas.Bool.{false≢true}
use Rattle.cp_session.specs.Doing.{was_over, refuses}
use Rattle.cp_session.specs.Service.{Service, service_of}
use Rattle.cp_session.specs.State.{linked, state_of, with_progress}
use Rattle.cp_session.proofs.session.SessionOverDrivenSession.refuse.Goals as goal

pub returns-then-is_over : goal.returns-then-is_over
returns-then-is_over g c = was_over (c.if-is_over.ensures.0 refl) refl

pub returns : goal.returns
returns g c =
    let old = state_of c.args.self.now in
    refuses (record old { service = service_of c.refuse.new.self; progress = c.meet-told.new.self }) (λ over. false≢true (c.if-is_over.ensures.1 over))
    (rw (← c.meet-told.ensures.told) c.refuse.ensures.refuses)
    (ap (λ (s : Service). record old { service = s; progress = c.meet-told.new.self }) (ap service_of c.refuse.ensures.same)
    ∙ ap (λ p. with_progress (linked old c.refuse.new.self.connection) p) c.meet-told.ensures.met)
    c.settle.ensures
