use Rattle.std.proofs.Common.{ap, ◌∙◌}
use Rattle.cp_vat_state.specs.Queue.{with_over}
use Rattle.cp_vat_rules.specs.Settling.{over_settled}
use Rattle.cp_vat_rules.proofs.give.end_answer.Goals as goal

pub returns-clause-answers : goal.returns-clause-answers
returns-clause-answers c = c.note_given.ensures

pub returns-clause-gates : goal.returns-clause-gates
returns-clause-gates c = c.in_ok-end_gates.ensures ∙ ap (λ q. with_over q (over_settled q.waiting.over c.args.settled.now)) c.in_ok-end.ensures
