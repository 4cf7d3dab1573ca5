use Rattle.std.proofs.Common.{Some, None, ap}
use Rattle.cp_dispatch.specs.WorkOf.{work_of}
use Rattle.cp_session.specs.State.{state_of}
use Rattle.cp_session.proofs.session.SessionOverDrivenSession.poll_event.Goals as goal

pub returns-in-Some : goal.returns-in-Some
returns-in-Some g c = record {
  notice = Some c.in-Some.event;
  work = work_of c.next.new.self c.args.self.now.endpoint.connection;
  hands = c.in-Some.ensures c.args.self.now.endpoint.connection;
  is = c.tell.ensures.event;
  rest = ap (λ s. state_of s) c.tell.ensures.told;
}

pub returns-in-None : goal.returns-in-None
returns-in-None g c = record {
  notice = None;
  work = work_of c.next.new.self c.args.self.now.endpoint.connection;
  hands = c.in-None.ensures c.args.self.now.endpoint.connection;
  is = c.last_event.ensures.event;
  rest = ap (λ s. state_of s) c.last_event.ensures.told;
}
