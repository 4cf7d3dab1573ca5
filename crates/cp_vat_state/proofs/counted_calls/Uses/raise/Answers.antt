use Rattle.cp_vat_state.proofs.counted_calls.Uses.raise.Goals as goal

pub returns-clause-raised : goal.returns-clause-raised
returns-clause-raised c = record {
  named = rw c.caps-caps.ensures at c.in_ok-raise_all.ensures.raised;
  awaited = rw c.awaited_at.ensures at c.in_default.ensures.raised;
  bytes = c.in_ok-bytes.ensures _ c.memory.ensures;
}
