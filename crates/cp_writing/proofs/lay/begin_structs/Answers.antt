use Rattle.std.proofs.Common.{◌+◌, ◌*◌, ap, arith}
use Rattle.std.proofs.lemmas.Result.{err_from_is_err_and}
use Rattle.cp_tree.specs.NodeOf.{bodies_of}
use Rattle.cp_tree.specs.Lent.{bodies_in}
use Rattle.cp_writing.specs.Sheets.{written}
use Rattle.cp_writing.proofs.Begins.{tag_refused, elements_refused, elements_begun}
use Rattle.cp_writing.proofs.Sheets.{refuses_on}
use Rattle.cp_writing.proofs.lay.begin_structs.Goals as goal

pub begin_elements-requires-clause-few : goal.begin_elements-requires-clause-few
begin_elements-requires-clause-few c = omega (arith, c.requires.shaped.1, c.len.ensures.value)

pub begin_elements-requires-clause-small : goal.begin_elements-requires-clause-small
begin_elements-requires-clause-small c =
    let size = ap (λ k. k * (c.args.list.words + c.args.list.ptrs)) c.len.ensures.value in
    omega (arith, c.requires.shaped.2, size)

pub returns-in_err-first : goal.returns-in_err-first
returns-in_err-first c =
    let A = c.args.arena.now in
    let list = c.args.list in
    let p = err_from_is_err_and c.from_residual.result c.from_residual.ensures.1 in
    rw (p.1, p.2) (tag_refused A.capacity c.args.at list.words list.ptrs (bodies_of (bodies_in list.items)) (written A) c.len.result c.len.ensures.value c.requires.shaped c.requires.there.0 c.in_err-first.field-0.0 c.in_err-first.ensures.0)

pub returns-in_err-append_bodies : goal.returns-in_err-append_bodies
returns-in_err-append_bodies c =
    let A = c.args.arena.now in
    let list = c.args.list in
    let first = c.in_ok-first.ensures.0 in
    let e = c.in_err-append_bodies.field-0.0 in
    let refused = refuses_on A c.begin_elements.new.arena e _ first.2 c.in_err-append_bodies.ensures in
    let p = err_from_is_err_and c.from_residual-in_err-append_bodies.result c.from_residual-in_err-append_bodies.ensures.1 in
    rw (p.1, p.2) (elements_refused A.capacity c.args.at list.words list.ptrs (bodies_of (bodies_in list.items)) (written A) c.len.result c.len.ensures.value c.requires.shaped c.requires.there.0 e _ first.0 refused)

pub returns : goal.returns
returns c =
    let list = c.args.list in
    let first = c.in_ok-first.ensures in
    elements_begun c.args.arena.now c.begin_elements.new.arena c.append_bodies.new.arena c.args.at c.in_ok-first.first list.words list.ptrs (bodies_of (bodies_in list.items)) c.len.result c.len.ensures.value c.requires.shaped c.requires.there.0 first.0.0 first.1 first.0.2 c.in_ok-append_bodies.ensures
