use Rattle.std.proofs.Common.{refl}
use Rattle.std.specs.BinaryHeap.{heap_items}
use Rattle.cp_refs.proofs.TicketLemmas.{seen-permutation, once-push}
use Rattle.cp_refs.proofs.tickets.Tickets.insert.Goals as goal

pub invariant_of-self-2 : goal.invariant_of-self-2
invariant_of-self-2 c = (
  c.in_ok-push.ensures.heap_order c.self.invariant.0,
  once-push c.args.ticket (heap_items c.self.inside.heap) (heap_items c.push.new.self) _ refl c.in_ok-push.ensures.permutation (rw (← c.self.view_is) at c.requires) c.self.invariant.1,
)

pub returns-clause-put : goal.returns-clause-put
returns-clause-put c = rw (← c.self.view_is) (seen-permutation _ (heap_items c.push.new.self) c.in_ok-push.ensures.permutation)
