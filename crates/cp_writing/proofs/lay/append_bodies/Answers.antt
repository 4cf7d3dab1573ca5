use Rattle.std.proofs.Common.{ap, refl}
use Rattle.std.proofs.lemmas.Result.{err_from_is_err_and}
use Rattle.cp_tree.specs.NodeOf.{bodies_of}
use Rattle.cp_writing.specs.Sheets.{written}
use Rattle.cp_writing.proofs.Begins.{next_blank, first_blank, writes_err}
use Rattle.cp_writing.proofs.Sheets.{refuses_on, limits_on}
use Rattle.cp_writing.proofs.lay.append_bodies.Goals as goal

pub returns-in_err-append_body : goal.returns-in_err-append_body
returns-in_err-append_body c =
    let A = c.args.arena.now in
    let B = c.loop-body.arena in
    let e = c.in_err-append_body.field-0.0 in
    let refused = refuses_on A B e _ c.loop-body.invariant.1 c.in_err-append_body.ensures in
    let p = err_from_is_err_and c.from_residual.result c.from_residual.ensures.1 in
    let next = ap bodies_of c.in-Some.ensures.steps in
    rw (p.1, p.2) (writes_err A.capacity e _ _ (first_blank _ _ _ c.in-Some.body.words.now _ c.len.result (written B) _ next refl c.len.ensures.value c.loop-body.invariant.2) refused)

pub loop-body-preserved : goal.loop-body-preserved
loop-body-preserved c =
    let same = c.loop-body.invariant.1 in
    let ok = c.in_ok-append_body.ensures in
    let next = ap bodies_of c.in-Some.ensures.steps in
    (ok.1, limits_on c.args.arena.now c.loop-body.arena c.append_body.new.arena same ok.2, next_blank _ _ _ c.in-Some.body.words.now _ c.len.result (written c.loop-body.arena) _ next refl c.len.ensures.value c.loop-body.invariant.2 _ ok.0)
