use Rattle.std.proofs.Common.{ap, ◌∙◌}
use Rattle.cp_session.specs.declared.progress.Progress.{Progress}
use Rattle.cp_session.specs.Doing.{tells_none, tells_owing}
use Rattle.cp_session.specs.Service.{Service, service_of}
use Rattle.cp_session.specs.State.{state_of, with_progress, worked}
use Rattle.cp_session.proofs.session.SessionOver.cancel.Goals as goal

pub returns-in-Ok : goal.returns-in-Ok
returns-in-Ok g c =
    tells_owing (service_of c.cancel.new.self).work c.in-Ok.ensures.cancels c.cancel.ensures.lives
    (ap (λ (s : Service). record (state_of c.args.self.now) { service = s; objects = c.cancel.new.objects }) c.cancel.ensures.same)

pub returns-in-Err : goal.returns-in-Err
returns-in-Err g c =
    let work = (service_of c.cancel.new.self).work in
    let others = c.cancel.new.objects in
    tells_none work c.cancel.ensures.lives
    (ap (λ (s : Service). with_progress (record (state_of c.args.self.now) { service = s; objects = others }) c.fail.new.self) c.cancel.ensures.same
    ∙ ap (λ (p : Progress). with_progress (record (worked (state_of c.args.self.now) work) { objects = others }) p) c.fail.ensures)
