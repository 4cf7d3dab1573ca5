use Rattle.cp_vat_state.specs.Overs.{over_of}
use Rattle.cp_vat_state.proofs.Ending.{none_over_in, over-left, below-left}
use Rattle.cp_vat_state.proofs.gates.Gates.next.Goals as goal

pub returns-in_default-clause-left : goal.returns-in_default-clause-left
returns-in_default-clause-left c =
    rw (← c.self.view_is) (none_over_in c.self.inside.calls (over_of c.self.inside.over) (c.self.invariant.whole c.if-self.false) c.in_default.ensures.none.0)

pub invariant_of-self-in_err-cap : goal.invariant_of-self-in_err-cap
invariant_of-self-in_err-cap c = record {
  below = rw c.in-Some.ensures.left.rest (below-left c.self.inside.calls.calls c.self.inside.next_ticket c.in-Some.call.ticket c.self.invariant.below);
  whole = λ is. over-left c.self.inside.calls c.next.new.self (over_of c.self.inside.over) c.in-Some.call c.in-Some.ensures.left (c.self.invariant.whole is);
}

pub invariant_of-self-2 : goal.invariant_of-self-2
invariant_of-self-2 c = record {
  below = rw c.in-Some.ensures.left.rest (below-left c.self.inside.calls.calls c.self.inside.next_ticket c.in-Some.call.ticket c.self.invariant.below);
  whole = λ is. over-left c.self.inside.calls c.next.new.self (over_of c.self.inside.over) c.in-Some.call c.in-Some.ensures.left (c.self.invariant.whole is);
}
