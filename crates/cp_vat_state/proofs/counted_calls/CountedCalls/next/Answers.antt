use Rattle.cp_vat_state.proofs.Keeping.{held-left}
use Rattle.cp_vat_state.proofs.counted_calls.CountedCalls.next.Goals as goal

pub invariant_of-self-2 : goal.invariant_of-self-2
invariant_of-self-2 c =
    rw c.in_ok-held.ensures.left.rest (held-left c.self.inside.calls.calls c.self.inside.uses c.lower.new.self c.in_ok-held.held.ticket c.in_ok-held.held c.self.invariant c.in_ok-held.ensures.left.waited c.lower.ensures)
