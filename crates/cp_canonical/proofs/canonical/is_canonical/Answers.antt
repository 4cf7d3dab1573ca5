use Rattle.std.proofs.Common.{sym, ◌∙◌}
use Rattle.std.proofs.lemmas.Result.{err_from_is_err_and}
use Rattle.cp_canonical.proofs.Refusals.{no_difference, sole_words}
use Rattle.cp_canonical.proofs.canonical.is_canonical.Goals as goal

pub returns-in_err-canonical-clause-only : goal.returns-in_err-canonical-clause-only
returns-in_err-canonical-clause-only c m =
    let p = err_from_is_err_and c.from_residual.result c.from_residual.ensures.1 in
    rw (p.1, p.2) (c.in_err-canonical.ensures.only m.0 m.2)

pub returns-in-Some-clause-only : goal.returns-in-Some-clause-only
returns-in-Some-clause-only c m =
    let first = c.index-lists-0.result in
    let mine = sole_words c.lists-lists.result.now first c.args.segments.now m.0 c.lists-lists.ensures.all m.1 c.index-lists-0.is in
    let same = c.deref.ensures.value ∙ mine ∙ sym (c.in_ok-canonical.ensures.only m.0 m.2) ∙ sym c.deref-2.ensures.value in
    absurd (no_difference c.deref.result.now c.deref-2.result.now c.in-Some.word same c.in-Some.ensures.first)
