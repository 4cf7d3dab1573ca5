use Rattle.cp_vat_state.proofs.Keeping.{held-call}
use Rattle.cp_vat_state.proofs.counted_calls.CountedCalls.hold.Goals as goal

pub invariant_of-self-in_default : goal.invariant_of-self-in_default
invariant_of-self-in_default c =
    rw c.in_default.ensures.held (held-call c.self.inside.calls.calls c.self.inside.uses c.raise.new.self c.args.held.ticket c.args.held c.self.invariant (rw (← c.self.view_is) at c.requires) c.in_ok-raise.ensures.raised)
