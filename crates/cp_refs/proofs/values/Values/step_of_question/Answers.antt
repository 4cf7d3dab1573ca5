use Rattle.std.proofs.Common.{sym}
use Rattle.cp_refs.proofs.Walks.{step_of_settled}
use Rattle.cp_refs.proofs.values.Values.step_of_question.Goals as goal

pub returns-in-Some-outcome : goal.returns-in-Some-outcome
returns-in-Some-outcome c = step_of_settled c.args.self.now c.args.id c.args.path.now c.in-Some.question.now c.in-Some-outcome.outcome c.step.result (sym c.in-Some.ensures) c.in-Some-outcome.is (rw c.fields.ensures at c.step.ensures)
