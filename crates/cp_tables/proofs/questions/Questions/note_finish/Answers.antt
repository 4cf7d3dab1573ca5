use Rattle.std.proofs.lemmas.Result.{err_from_is_err_and}
use Rattle.cp_tables.proofs.TableLemmas.{remove-insert}
use Rattle.cp_tables.proofs.ExchangeLemmas.{refused_finish, note_refused, note_first}
use Rattle.cp_tables.proofs.questions.Questions.note_finish.Goals as goal

pub returns-in_err-note_finish-clause-err : goal.returns-in_err-note_finish-clause-err
returns-in_err-note_finish-clause-err g c =
    let p = err_from_is_err_and c.from_residual.result c.from_residual.ensures.1 in
    rw (p.1, ← c.self.view_is) (
    note_refused c.self.inside.slots c.args.id c.in-Some.question.now c.note_finish.new.self _ c.note_finish.ensures.noted c.in-Some.ensures.value (refused_finish _ _ c.in_err-note_finish.ensures.goes)
    )

pub returns-then-branch-clause-gone : goal.returns-then-branch-clause-gone
returns-then-branch-clause-gone g c = λ _. rw (c.remove.ensures.removed, ← c.self.view_is) (remove-insert c.self.inside.slots c.args.id c.note_finish.new.self)

pub returns-else-branch-clause-noted : goal.returns-else-branch-clause-noted
returns-else-branch-clause-noted g c = λ was.
    rw (← c.self.view_is) (note_first c.self.inside.slots c.args.id c.in-Some.question.now c.note_finish.new.self _ c.note_finish.ensures.noted c.in-Some.ensures.value (rw (← c.self.view_is) at was))
