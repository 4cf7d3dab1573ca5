use Rattle.cp_refs.proofs.Queueing.{queued-left}
use Rattle.cp_refs.proofs.waiting.Waiting.next.Goals as goal

pub invariant_of-self : goal.invariant_of-self
invariant_of-self c = rw c.in_err-ticket.ensures.unchanged c.self.invariant

pub returns-in_err-ticket-clause-none : goal.returns-in_err-ticket-clause-none
returns-in_err-ticket-clause-none c =
    rw (c.from_residual.ensures, c.in_err-ticket.ensures.unchanged) (rw (← c.self.view_is) c.in_err-ticket.ensures.none, c.self.view_is)

pub invariant_of-self-2 : goal.invariant_of-self-2
invariant_of-self-2 c =
    rw (c.remove.ensures.removed, c.in_ok-ticket.ensures.taken.1) (queued-left c.self.inside.calls c.self.inside.queues c.self.inside.ended c.self.invariant c.in_ok-ticket.ticket c.in_ok-ticket.ensures.taken.0)
