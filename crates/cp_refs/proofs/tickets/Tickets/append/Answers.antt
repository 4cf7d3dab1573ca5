use Rattle.std.proofs.Common.{◌++◌}
use Rattle.std.specs.BinaryHeap.{heap_items}
use Rattle.cp_refs.proofs.TicketLemmas.{seen-permutation, seen-append, once-append}
use Rattle.cp_refs.proofs.tickets.Tickets.append.Goals as goal

pub invariant_of-self-2 : goal.invariant_of-self-2
invariant_of-self-2 c = (
  c.in_ok-append.ensures.heap_order c.self.invariant.0,
  once-append
      (heap_items c.self.inside.heap)
      (heap_items c.other.inside.heap)
      (heap_items c.append.new.self)
      c.in_ok-append.ensures.permutation
      (rw (← c.self.view_is, ← c.other.view_is) at c.requires)
      c.self.invariant.1
      c.other.invariant.1,
)

pub returns-clause-joined : goal.returns-clause-joined
returns-clause-joined c = λ t.
    rw (← c.self.view_is, ← c.other.view_is, seen-permutation (heap_items c.self.inside.heap ++ heap_items c.other.inside.heap) (heap_items c.append.new.self) c.in_ok-append.ensures.permutation)
    (seen-append (heap_items c.self.inside.heap) (heap_items c.other.inside.heap) t)
