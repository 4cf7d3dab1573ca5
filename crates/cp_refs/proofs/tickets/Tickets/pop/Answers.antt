use Rattle.std.specs.BinaryHeap.{heap_items}
use Rattle.cp_refs.proofs.TicketLemmas.{once-pop, seen-pop, lowest-of}
use Rattle.cp_refs.proofs.tickets.Tickets.pop.Goals as goal

pub invariant_of-self-2 : goal.invariant_of-self-2
invariant_of-self-2 c = (
  (c.in_ok-ticket.ensures.heap_order c.self.invariant.0).0,
  once-pop (heap_items c.self.inside.heap) (heap_items c.pop.new.self) c.in_ok-ticket.field-0 c.in_ok-ticket.ensures.permutation c.self.invariant.1,
)

pub returns-clause-taken : goal.returns-clause-taken
returns-clause-taken c =
    rw (← c.self.view_is) (seen-pop (heap_items c.self.inside.heap) (heap_items c.pop.new.self) c.in_ok-ticket.field-0 c.in_ok-ticket.ensures.permutation c.self.invariant.1)

pub returns-clause-lowest : goal.returns-clause-lowest
returns-clause-lowest c = λ q h.
    lowest-of c.in_ok-ticket.field-0.0 (heap_items c.self.inside.heap) (c.in_ok-ticket.ensures.heap_order c.self.invariant.0).1 q (rw (← c.self.view_is) at h)
