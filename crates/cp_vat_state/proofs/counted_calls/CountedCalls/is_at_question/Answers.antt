use Rattle.std.proofs.Common.{◌∙◌}
use Rattle.cp_vat_state.proofs.Asking.{waits_at_question}
use Rattle.cp_vat_state.proofs.counted_calls.CountedCalls.is_at_question.Goals as goal

pub returns : goal.returns
returns c = rw (← c.self.view_is) (c.has.ensures ∙ waits_at_question c.self.inside.calls.calls c.self.inside.uses c.args.id c.self.invariant)
