use Rattle.cp_vat_state.proofs.counted_calls.Uses.lower.Goals as goal

pub returns : goal.returns
returns c = record {
  named = rw c.caps.ensures at c.lower_all.ensures;
  awaited = rw c.awaited_at.ensures at c.lower.ensures;
  bytes = c.lowered-self.ensures _ c.memory.ensures;
}
