use Rattle.cp_vat_state.specs.Overs.{over_of}
use Rattle.cp_vat_state.proofs.Ending.{over-forgotten}
use Rattle.cp_vat_state.proofs.gates.Gates.forget.Goals as goal

pub invariant_of-self : goal.invariant_of-self
invariant_of-self c =
    rw c.new.ensures (record {
      below = c.self.invariant.below;
      whole = λ is. over-forgotten c.self.inside.calls (over_of c.self.inside.over) (c.self.invariant.whole is) (rw (← c.self.view_is) at c.requires);
    })
