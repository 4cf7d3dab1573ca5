use Rattle.cp_tail_calls.proofs.Untaken.{taken_less}
use Rattle.cp_tail_calls.proofs.results.UntakenResults.remove.Goals as goal

pub invariant_of-self : goal.invariant_of-self
invariant_of-self c =
    rw c.remove.ensures.removed
    (taken_less c.self.inside.returns c.args.call c.self.inside.bytes _ c.self.invariant (c.lowered-self-inside.ensures _ (rw (← c.self.view_is) at c.memory_of.ensures)))
