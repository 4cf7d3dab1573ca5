use Rattle.std.proofs.Common.{ap}
use Rattle.cp_session.specs.Service.{Service, service_of}
use Rattle.cp_session.specs.State.{state_of}
use Rattle.cp_session.proofs.session.SessionOverDrivenSession.tick.Goals as goal

pub returns : goal.returns
returns g c =
    let old = state_of c.args.self.now in
    record {
      told = c.tick-excess.result;
      ticked = record old { service = service_of c.refuse.new.self; progress = c.tick-excess.new.self };
      mid = state_of c.go_by.new.self;
      ticks = rw (← c.kept-kept.ensures) c.tick-excess.ensures;
      refuses = c.refuse.ensures.refuses;
      same = ap (λ (s : Service). record old { service = s; progress = c.tick-excess.new.self }) (ap service_of c.refuse.ensures.same);
      goes_by = c.go_by.ensures;
      settles = c.settle.ensures;
    }
