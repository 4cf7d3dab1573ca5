use Rattle.std.proofs.Common.{sym, ◌∙◌}
use mathlib.Core.Bool.{true≢false}
use Rattle.cp_vat_state.specs.Overs.{over_of}
use Rattle.cp_vat_state.proofs.Ending.{over-held_at, over-held_over, below-held, same-bare}
use Rattle.cp_vat_state.proofs.gates.Gates.hold.Goals as goal

pub invariant_of-self-then-not-has : goal.invariant_of-self-then-not-has
invariant_of-self-then-not-has c = record {
  below = rw c.in_ok-hold.ensures.held (below-held c.self.inside.calls.calls c.self.inside.next_ticket c.args.held c.self.invariant.below (rw (← c.self.view_is) at c.requires.given));
  whole =
      λ is. over-held_at c.self.inside.calls c.hold.new.self (over_of c.self.inside.over) c.args.held c.without_path-gate.result (c.self.invariant.whole is)
      (rw (← c.self.view_is) at c.requires.free) c.in_ok-hold.ensures.held (rw c.without_path-gate.ensures (same-bare c.args.held.gate)) (sym c.has.ensures ∙ c.if-not-has.true);
}

pub invariant_of-self-in-Err : goal.invariant_of-self-in-Err
invariant_of-self-in-Err c = record {
  below = rw (c.in-Err.ensures.err, c.in_ok-hold.ensures.held) (below-held c.self.inside.calls.calls c.self.inside.next_ticket c.args.held c.self.invariant.below (rw (← c.self.view_is) at c.requires.given));
  whole = λ is. absurd (true≢false is);
}

pub invariant_of-self-in_default : goal.invariant_of-self-in_default
invariant_of-self-in_default c = record {
  below = rw (c.in_default.ensures.ended.calls, c.in_ok-hold.ensures.held) (below-held c.self.inside.calls.calls c.self.inside.next_ticket c.args.held c.self.invariant.below (rw (← c.self.view_is) at c.requires.given));
  whole =
      λ is. over-held_over c.self.inside.calls c.hold.new.self c.end.new.self (over_of c.self.inside.over) c.args.held c.without_path-gate.result (c.self.invariant.whole is)
      (rw (← c.self.view_is) at c.requires.free) c.in_ok-hold.ensures.held (rw c.without_path-gate.ensures (same-bare c.args.held.gate)) (sym c.has.ensures ∙ c.if-not-has.false) c.in_default.ensures.ended;
}
