use Rattle.cp_vat_state.specs.Overs.{over_of, over_with, gate_of}
use Rattle.cp_vat_state.proofs.Ending.{over-more, fulfillment-more}
use Rattle.cp_vat_state.proofs.gates.Gates.end.Goals as goal

pub invariant_of-self-in_default : goal.invariant_of-self-in_default
invariant_of-self-in_default c =
    rw c.in_default.ensures (record {
      below = rw c.in_ok-end.ensures.ended.calls c.self.invariant.below;
      whole =
          λ is. over-more c.self.inside.calls c.end.new.self (over_of c.self.inside.over) (over_with (over_of c.self.inside.over) c.args.fulfillment) (gate_of c.args.fulfillment)
          (rw c.gate-gate.ensures at c.in_ok-end.ensures.ended)
          (c.self.invariant.whole is)
          (fulfillment-more (over_of c.self.inside.over) c.args.fulfillment);
    })
