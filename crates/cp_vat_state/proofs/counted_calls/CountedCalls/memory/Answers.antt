use Rattle.cp_vat_state.proofs.counted_calls.CountedCalls.memory.Goals as goal

pub returns : goal.returns
returns c = rw (← c.self.view_is) c.self.invariant.bytes
