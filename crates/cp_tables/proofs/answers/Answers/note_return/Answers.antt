use Rattle.std.proofs.lemmas.Result.{err_from_is_err_and}
use Rattle.cp_tables.specs.declared.TheConstants.{LIMIT}
use Rattle.cp_tables.proofs.TableLemmas.{few-insert_held, few-remove, remove-insert}
use Rattle.cp_tables.proofs.ExchangeLemmas.{refused_return, note_refused, note_first}
use Rattle.cp_tables.proofs.answers.Answers.note_return.Goals as goal

pub returns-in_err-note_return-clause-err : goal.returns-in_err-note_return-clause-err
returns-in_err-note_return-clause-err g c =
    let p = err_from_is_err_and c.from_residual.result c.from_residual.ensures.1 in
    rw (p.1, ← c.self.view_is) (
    note_refused c.self.inside.entries c.args.id c.in-Some.answer.now c.note_return.new.self _ c.note_return.ensures.noted c.in-Some.ensures.value (refused_return _ _ c.in_err-note_return.ensures.goes)
    )

pub returns-then-branch-clause-gone : goal.returns-then-branch-clause-gone
returns-then-branch-clause-gone g c = λ _. rw (c.remove.ensures.removed, ← c.self.view_is) (remove-insert c.self.inside.entries c.args.id c.note_return.new.self)

pub returns-else-branch-clause-noted : goal.returns-else-branch-clause-noted
returns-else-branch-clause-noted g c = λ was.
    rw (← c.self.view_is) (note_first c.self.inside.entries c.args.id c.in-Some.answer.now c.note_return.new.self _ c.note_return.ensures.noted c.in-Some.ensures.value (rw (← c.self.view_is) at was))

pub invariant_of-self-in_err-note_return : goal.invariant_of-self-in_err-note_return
invariant_of-self-in_err-note_return g c = few-insert_held c.self.inside.entries c.args.id LIMIT c.in-Some.answer.now c.note_return.new.self c.in-Some.ensures.value c.self.invariant

pub invariant_of-self-then-branch : goal.invariant_of-self-then-branch
invariant_of-self-then-branch g c = rw c.remove.ensures.removed (few-remove _ c.args.id LIMIT (few-insert_held c.self.inside.entries c.args.id LIMIT c.in-Some.answer.now c.note_return.new.self c.in-Some.ensures.value c.self.invariant))

pub invariant_of-self-else-branch : goal.invariant_of-self-else-branch
invariant_of-self-else-branch g c = few-insert_held c.self.inside.entries c.args.id LIMIT c.in-Some.answer.now c.note_return.new.self c.in-Some.ensures.value c.self.invariant
