use Rattle.std.proofs.lemmas.Result.{err_from_is_err_and}
use Rattle.cp_tables.proofs.TableLemmas.{remove-insert}
use Rattle.cp_tables.proofs.CountedLemmas.{AreCounts-insert, AreCounts-remove, count_here, lowered_by_none, lowered_count, written_back}
use Rattle.cp_tables.proofs.exports.Exports.lower.Goals as goal

pub invariant_of-self-in_err-lower : goal.invariant_of-self-in_err-lower
invariant_of-self-in_err-lower g c =
    rw (written_back c.self.inside.slots c.args.id c.in-Some.export.now c.lower.new.self c.in-Some.ensures.value c.in_err-lower.ensures.too_many.2) c.self.invariant

pub returns-in_err-lower-clause-err : goal.returns-in_err-lower-clause-err
returns-in_err-lower-clause-err g c =
    let p = err_from_is_err_and c.from_residual.result c.from_residual.ensures.1 in
    rw (p.1, ← c.self.view_is) (written_back c.self.inside.slots c.args.id c.in-Some.export.now c.lower.new.self c.in-Some.ensures.value c.in_err-lower.ensures.too_many.2)

pub invariant_of-self-then-branch : goal.invariant_of-self-then-branch
invariant_of-self-then-branch g c =
    rw (c.remove.ensures.removed, remove-insert c.self.inside.slots c.args.id c.lower.new.self) (AreCounts-remove c.self.inside.slots c.args.id c.self.invariant)

pub invariant_of-self-else-branch : goal.invariant_of-self-else-branch
invariant_of-self-else-branch g c =
    let count = count_here c.self.inside.slots c.args.id c.in-Some.export.now c.in-Some.ensures.value c.self.invariant in
    AreCounts-insert c.self.inside.slots c.args.id c.lower.new.self c.self.invariant (lowered_count c.in-Some.export.now c.lower.new.self c.args.n c.in_ok-lower.field-0 c.in_ok-lower.ensures.lowered c.in_ok-lower.ensures.goes c.if-branch.false count)

pub returns-then-branch-clause-gone : goal.returns-then-branch-clause-gone
returns-then-branch-clause-gone g c = λ _ _. rw (c.remove.ensures.removed, ← c.self.view_is) (remove-insert c.self.inside.slots c.args.id c.lower.new.self)

pub returns-else-branch-clause-unchanged_by_0 : goal.returns-else-branch-clause-unchanged_by_0
returns-else-branch-clause-unchanged_by_0 g c = λ none.
    rw (← c.self.view_is) (lowered_by_none c.self.inside.slots c.args.id c.in-Some.export.now c.lower.new.self c.args.n c.in-Some.ensures.value c.in_ok-lower.ensures.lowered.1 none)
