use Rattle.std.proofs.Common.{ap}
use Rattle.cp_session.specs.Service.{Service, service_of}
use Rattle.cp_session.specs.State.{state_of}
use Rattle.cp_session.proofs.session.SessionOverCallingSession.release.Goals as goal

pub returns : goal.returns
returns g c = record {
  work = (service_of c.give_back.new.self).work;
  gives_back = c.give_back.ensures.back;
  same = ap (λ (service : Service). record (state_of c.args.self.now) { service = service }) c.give_back.ensures.same;
}
