use Rattle.std.proofs.Common.{◌∙◌}
use Rattle.cp_vat_state.proofs.Asking.{waits_at_promise}
use Rattle.cp_vat_state.proofs.counted_calls.CountedCalls.is_at_promise.Goals as goal

pub returns : goal.returns
returns c = rw (← c.self.view_is) (c.has.ensures ∙ waits_at_promise c.self.inside.calls.calls c.self.inside.uses c.args.id c.self.invariant)
