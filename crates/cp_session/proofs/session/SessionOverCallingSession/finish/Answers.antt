use Rattle.std.proofs.Common.{ap, subst}
use Rattle.std.proofs.lemmas.Result.{err_from_is_err_and}
use Rattle.cp_session.specs.Doing.{ReleasesUntaken}
use Rattle.cp_session.specs.Service.{Service, service_of}
use Rattle.cp_session.specs.State.{state_of}
use Rattle.cp_session.proofs.session.SessionOverCallingSession.finish.Goals as goal

pub returns-in_err-untaken-clause-unfinished : goal.returns-in_err-untaken-clause-unfinished
returns-in_err-untaken-clause-unfinished g c =
    let p = err_from_is_err_and c.from_residual.result c.from_residual.ensures.1 in
    rw (p.1, p.2)
    (c.finish.new.self.connection, c.in_err-untaken.ensures.unfinished, ap (λ (s : Service). record (state_of c.args.self.now) { service = s }) c.in_err-untaken.ensures.rest)

pub returns-clause-finishes : goal.returns-clause-finishes
returns-clause-finishes g c = record {
  untaken = c.in_ok-untaken.untaken;
  work = (service_of c.finish.new.self).work;
  mid = state_of c.release_untaken.new.self;
  finishes = c.in_ok-untaken.ensures.finishes;
  releases = subst (λ (s : Service). ReleasesUntaken c.in_ok-untaken.untaken (record (state_of c.args.self.now) { service = s }) (state_of c.release_untaken.new.self)) c.in_ok-untaken.ensures.same c.release_untaken.ensures;
  cancels = c.cancel.ensures;
}
