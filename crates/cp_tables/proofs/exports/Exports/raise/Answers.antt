use Rattle.std.proofs.lemmas.Result.{err_from_is_err_and}
use Rattle.cp_tables.proofs.CountedLemmas.{AreCounts-insert, count_here, opened_counts, raised_count, written_back}
use Rattle.cp_tables.proofs.exports.Exports.raise.Goals as goal

pub invariant_of-self : goal.invariant_of-self
invariant_of-self g c = opened_counts c.self.inside.slots c.open.new.self c.args.kept c.open.result c.open.ensures.opened c.open.ensures.err c.self.invariant

pub invariant_of-self-in_err-raise : goal.invariant_of-self-in_err-raise
invariant_of-self-in_err-raise g c =
    rw (written_back c.self.inside.slots c.in-Some.id c.in-Some-get_mut.export.now c.raise.new.self c.in-Some-get_mut.ensures.value c.in_err-raise.ensures.full.2) c.self.invariant

pub returns-in_err-raise-clause-err : goal.returns-in_err-raise-clause-err
returns-in_err-raise-clause-err g c =
    let p = err_from_is_err_and c.from_residual.result c.from_residual.ensures.1 in
    rw (p.1, ← c.self.view_is) (written_back c.self.inside.slots c.in-Some.id c.in-Some-get_mut.export.now c.raise.new.self c.in-Some-get_mut.ensures.value c.in_err-raise.ensures.full.2)

pub invariant_of-self-2 : goal.invariant_of-self-2
invariant_of-self-2 g c =
    let count = count_here c.self.inside.slots c.in-Some.id c.in-Some-get_mut.export.now c.in-Some-get_mut.ensures.value c.self.invariant in
    AreCounts-insert c.self.inside.slots c.in-Some.id c.raise.new.self c.self.invariant (raised_count c.in-Some-get_mut.export.now c.raise.new.self c.raise.result c.raise.ensures.raised c.raise.ensures.full count)
