use Rattle.std.proofs.Common.{◌∙◌}
use Rattle.std.proofs.lemmas.Result.{err_from_is_err_and}
use Rattle.cp_canonical.proofs.Refusals.{form_refused, form_written}
use Rattle.cp_canonical.proofs.canonical.canonical_of.Goals as goal

pub returns-in_err-lay-clause-refused : goal.returns-in_err-lay-clause-refused
returns-in_err-lay-clause-refused c =
    let p = err_from_is_err_and c.from_residual-in_err-lay.result c.from_residual-in_err-lay.ensures.1 in
    rw (p.1, p.2) (form_refused (Unit {0}) c.args.limits c.args.view.now c.in_ok-arena.arena c.lay.new.arena c.in_err-lay.field-0.0 c.shape.ensures.shaped c.in_ok-arena.ensures.0 (c.in_ok-arena.ensures.2 ∙ c.frame_words.ensures.value) c.in_err-lay.ensures)

pub returns-clause-canonical : goal.returns-clause-canonical
returns-clause-canonical c =
    let done = c.in_ok-lay.ensures in
    (form_written c.args.limits c.args.view.now c.in_ok-arena.arena c.lay.new.arena c.shape.ensures.shaped c.in_ok-arena.ensures.0 done.0 done.1, done.3)
