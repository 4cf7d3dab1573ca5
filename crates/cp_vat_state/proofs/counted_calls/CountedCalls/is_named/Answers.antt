use Rattle.std.proofs.Common.{◌∙◌}
use Rattle.cp_vat_state.proofs.Asking.{is_in_table}
use Rattle.cp_vat_state.proofs.counted_calls.CountedCalls.is_named.Goals as goal

pub returns : goal.returns
returns c = rw (← c.self.view_is) (c.has.ensures ∙ is_in_table c.self.inside.calls.calls c.self.inside.uses c.args.sought c.self.invariant)
