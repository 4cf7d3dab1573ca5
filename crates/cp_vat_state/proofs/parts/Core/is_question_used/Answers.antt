use Rattle.std.proofs.Common.{◌∙◌}
use Rattle.std.specs.FinMap.{values}
use Rattle.cp_vat_machine.specs.InUse.{is_pipelined_of}
use Rattle.cp_vat_state.proofs.Using.{any-flat_map}
use Rattle.cp_vat_state.proofs.parts.Core.is_question_used.Goals as goal

pub returns-else-is_at_question : goal.returns-else-is_at_question
returns-else-is_at_question c =
    rw (← c.if-is_at_question.ensures)
    (c.is_named.ensures ∙ any-flat_map (is_pipelined_of c.args.id) (λ call. call.request.caps) (values c.args.self.now.gates.waiting.calls))
