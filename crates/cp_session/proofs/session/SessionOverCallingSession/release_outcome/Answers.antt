use Rattle.std.proofs.Common.{ap, ◌∙◌}
use Rattle.cp_session.specs.declared.progress.Progress.{Progress}
use Rattle.cp_session.specs.Doing.{gives_back, runs_out_of_memory}
use Rattle.cp_session.specs.Service.{Service, service_of}
use Rattle.cp_session.specs.State.{state_of, with_progress, worked}
use Rattle.cp_session.proofs.session.SessionOverCallingSession.release_outcome.Goals as goal

pub returns-in-Ok : goal.returns-in-Ok
returns-in-Ok g c =
    gives_back (service_of c.give_back_each.new.self).work c.in-Ok.ensures.back c.give_back_each.ensures.lives
    (ap (λ (s : Service). record (state_of c.args.self.now) { service = s }) c.give_back_each.ensures.same)

pub returns : goal.returns
returns g c =
    let work = (service_of c.give_back_each.new.self).work in
    runs_out_of_memory work c.give_back_each.ensures.lives
    (ap (λ (s : Service). with_progress (record (state_of c.args.self.now) { service = s }) c.fail.new.self) c.give_back_each.ensures.same
    ∙ ap (λ (p : Progress). with_progress (worked (state_of c.args.self.now) work) p) c.fail.ensures)
