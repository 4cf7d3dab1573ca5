use Rattle.cp_vat_state.proofs.Ending.{below-back}
use Rattle.cp_vat_state.proofs.gates.Gates.take_back.Goals as goal

pub invariant_of-self : goal.invariant_of-self
invariant_of-self c =
    record {
      below = below-back c.self.inside.calls.calls c.self.inside.next_ticket c.self.invariant.below (rw (← c.self.view_is) at c.requires.given) (rw (← c.self.view_is) at c.requires.free);
      whole = c.self.invariant.whole;
    }
