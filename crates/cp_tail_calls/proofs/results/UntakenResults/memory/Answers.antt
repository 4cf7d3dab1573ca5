use Rattle.cp_tail_calls.proofs.results.UntakenResults.memory.Goals as goal

pub returns : goal.returns
returns c = rw (← c.self.view_is) c.self.invariant
