use Rattle.std.proofs.Common.{◌+◌, ◌*◌, refl, sym, ap, subst, ◌∙◌, arith}
use Rattle.std.proofs.lemmas.Result.{err_from_is_err_and}
use Rattle.cp_words.specs.declared.pointer.Pointer.TheVariants as pointers
use Rattle.cp_words.specs.Word.{word_of}
use Rattle.cp_tree.specs.Node.{greatest_depth, deepest_body, total_cost, body_cost, struct, structs, ptrs}
use Rattle.cp_tree.specs.NodeOf.{nodes_of, bodies_of}
use Rattle.cp_tree.specs.Lent.{row_in, bodies_in, elements_in}
use Rattle.cp_tree.specs.Shaped.{Shaped}
use Rattle.cp_writing.specs.Sheets.{written, put}
use Rattle.cp_writing.proofs.Begins.{not_begun, nothing_hangs_on}
use Rattle.cp_writing.proofs.Hanging.{not_charged, refused, hung, bodies_hung, goes_on, stops, no_pointers}
use Rattle.cp_writing.proofs.Sheets.{put-keeps, within}
use Rattle.cp_writing.proofs.Steps.{few_elements, tree_needs, tree_refused, row_next, body_needs, body_refused, bodies_next}
use Rattle.cp_writing.proofs.lay.+lay.Goals as goal

pub lay-returns-in-Null : goal.lay-returns-in-Null
lay-returns-in-Null t c =
    let A = c.args.arena.now in
    let at = c.args.at in
    let done = c.put.ensures in
    rw (← c.in-Null.ensures) (omega arith, omega (arith, done.limits.1), done.written, within A c.put.new.self _ done.written done.limits (put-keeps A.capacity (written A) at.segment at.word 0 c.requires.there.0 c.requires.keeps), done.limits.0)

pub lay-returns-in-Cap : goal.lay-returns-in-Cap
lay-returns-in-Cap t c =
    let A = c.args.arena.now in
    let at = c.args.at in
    let done = c.put-in-Cap.ensures in
    let is = done.written ∙ ap (λ w. put at.segment at.word w (written A)) c.encode.ensures.word in
    rw (← c.in-Cap.ensures) (omega arith, omega (arith, done.limits.1), is, within A c.put-in-Cap.new.self _ is done.limits (put-keeps A.capacity (written A) at.segment at.word (word_of (pointers.Cap c.in-Cap.index)) c.requires.there.0 c.requires.keeps), done.limits.0)

pub lay-lay_list-requires-clause-few : goal.lay-lay_list-requires-clause-few
lay-lay_list-requires-clause-few t c = few_elements (elements_in c.in-List.list) (subst Shaped (sym c.in-List.ensures) c.requires.shaped)

pub lay-returns-in-List : goal.lay-returns-in-List
lay-returns-in-List t c = rw (← c.in-List.ensures) c.lay_list.ensures

pub lay-returns-in_err-below-in-Struct : goal.lay-returns-in_err-below-in-Struct
lay-returns-in_err-below-in-Struct t c =
    let p = err_from_is_err_and c.from_residual.result c.from_residual.ensures.1 in
    rw (p.1, p.2, ← c.in-Struct.ensures) (not_charged (Unit {0}) c.args.arena.now c.charge.new.self c.args.levels _ _ _ c.in_err-below-in-Struct.field-0.0 _ c.in_err-below-in-Struct.ensures (omega arith) (omega (arith, c.len-count.ensures.value)))

pub lay-begin_struct-requires-clause-sizes : goal.lay-begin_struct-requires-clause-sizes
lay-begin_struct-requires-clause-sizes t c =
    let shaped = subst Shaped (sym c.in-Struct.ensures) c.requires.shaped in
    (shaped.0.0, omega (arith, shaped.0.1, c.len-count.ensures.value))

pub lay-returns-in_err-first-in-Struct : goal.lay-returns-in_err-first-in-Struct
lay-returns-in_err-first-in-Struct t c =
    let A = c.args.arena.now in
    let B = c.charge.new.self in
    let b = c.in-Struct.body in
    let e = c.in_err-first-in-Struct.field-0.0 in
    let none = not_begun B c.begin_struct.new.arena c.args.at c.len-count.result (struct b.words.now) _ (nodes_of (row_in b.ptrs)) e (sym c.in-Struct.ensures) (sym c.len-count.ensures.value) c.requires.shaped c.in_err-first-in-Struct.ensures in
    let p = err_from_is_err_and c.from_residual-in_err-first-in-Struct.result c.from_residual-in_err-first-in-Struct.ensures.1 in
    rw (p.1, p.2) (refused A B c.args.levels _ _ c.in_ok-below-in-Struct.ensures (Unit {0}) c.begin_struct.new.arena c.args.at _ e none)

pub lay-lay_row-requires : goal.lay-lay_row-requires
lay-lay_row-requires t c =
    let begun = c.in_ok-first-in-Struct.ensures in
    let shaped = subst Shaped (sym c.in-Struct.ensures) c.requires.shaped in
    (omega (arith, c.decreases, c.in_ok-below-in-Struct.ensures.0), (begun.0, ((begun.1.0, omega (arith, begun.1.1, c.len-count.ensures.value)), shaped.2)))

pub lay-returns-in_ok-first-in-Struct : goal.lay-returns-in_ok-first-in-Struct
lay-returns-in_ok-first-in-Struct t c =
    let b = c.in-Struct.body in
    let row = c.lay_row in
    hung c.args.arena.now c.charge.new.self c.args.levels _ _ c.in_ok-below-in-Struct.ensures c.begin_struct.new.arena row.new.arena c.args.at c.in_ok-first-in-Struct.first row.result _
    c.len-count.result (struct b.words.now) (nodes_of (row_in b.ptrs)) (sym c.in-Struct.ensures) (sym c.len-count.ensures.value) c.in_ok-first-in-Struct.ensures refl (omega (arith, c.len-count.ensures.value)) row.ensures

pub lay-returns-in_err-below-in-Ptrs : goal.lay-returns-in_err-below-in-Ptrs
lay-returns-in_err-below-in-Ptrs t c =
    let p = err_from_is_err_and c.from_residual-in_err-below-in-Ptrs.result c.from_residual-in_err-below-in-Ptrs.ensures.1 in
    rw (p.1, p.2, ← c.in-Ptrs.ensures) (not_charged (Unit {0}) c.args.arena.now c.charge-in-Ptrs.new.self c.args.levels _ _ _ c.in_err-below-in-Ptrs.field-0.0 _ c.in_err-below-in-Ptrs.ensures (omega arith) (omega (arith, c.len-count-in-Ptrs.ensures.value)))

pub lay-begin_ptrs-requires-clause-few : goal.lay-begin_ptrs-requires-clause-few
lay-begin_ptrs-requires-clause-few t c =
    let shaped = subst Shaped (sym c.in-Ptrs.ensures) c.requires.shaped in
    omega (arith, shaped.0, c.len-count-in-Ptrs.ensures.value)

pub lay-returns-in_err-first-in-Ptrs : goal.lay-returns-in_err-first-in-Ptrs
lay-returns-in_err-first-in-Ptrs t c =
    let A = c.args.arena.now in
    let B = c.charge-in-Ptrs.new.self in
    let e = c.in_err-first-in-Ptrs.field-0.0 in
    let none = not_begun B c.begin_ptrs.new.arena c.args.at c.len-count-in-Ptrs.result ptrs _ (nodes_of (row_in c.in-Ptrs.trees)) e (sym c.in-Ptrs.ensures) (sym c.len-count-in-Ptrs.ensures.value) c.requires.shaped c.in_err-first-in-Ptrs.ensures in
    let p = err_from_is_err_and c.from_residual-in_err-first-in-Ptrs.result c.from_residual-in_err-first-in-Ptrs.ensures.1 in
    rw (p.1, p.2) (refused A B c.args.levels _ _ c.in_ok-below-in-Ptrs.ensures (Unit {0}) c.begin_ptrs.new.arena c.args.at _ e none)

pub lay-lay_row-requires-in-Ptrs : goal.lay-lay_row-requires-in-Ptrs
lay-lay_row-requires-in-Ptrs t c =
    let begun = c.in_ok-first-in-Ptrs.ensures in
    let shaped = subst Shaped (sym c.in-Ptrs.ensures) c.requires.shaped in
    (omega (arith, c.decreases, c.in_ok-below-in-Ptrs.ensures.0), (begun.0, ((begun.1.0, omega (arith, begun.1.1, c.len-count-in-Ptrs.ensures.value)), shaped.1)))

pub lay-returns-in_ok-first-in-Ptrs : goal.lay-returns-in_ok-first-in-Ptrs
lay-returns-in_ok-first-in-Ptrs t c =
    let row = c.lay_row-in-Ptrs in
    hung c.args.arena.now c.charge-in-Ptrs.new.self c.args.levels _ _ c.in_ok-below-in-Ptrs.ensures c.begin_ptrs.new.arena row.new.arena c.args.at c.in_ok-first-in-Ptrs.first row.result _
    c.len-count-in-Ptrs.result ptrs (nodes_of (row_in c.in-Ptrs.trees)) (sym c.in-Ptrs.ensures) (sym c.len-count-in-Ptrs.ensures.value) c.in_ok-first-in-Ptrs.ensures refl (omega (arith, c.len-count-in-Ptrs.ensures.value)) row.ensures

pub lay-overflow_mul-len : goal.lay-overflow_mul-len
lay-overflow_mul-len t c =
    let shaped = subst Shaped (sym c.in-Structs.ensures) c.requires.shaped in
    let size = ap (λ k. k * (c.in-Structs.list.words + c.in-Structs.list.ptrs)) c.len.ensures.value in
    omega (arith, shaped.1, shaped.2, c.len.ensures.value, size)

pub lay-overflow_add-len : goal.lay-overflow_add-len
lay-overflow_add-len t c =
    let shaped = subst Shaped (sym c.in-Structs.ensures) c.requires.shaped in
    let size = ap (λ k. k * (c.in-Structs.list.words + c.in-Structs.list.ptrs)) c.len.ensures.value in
    omega (arith, shaped.1, shaped.2, c.len.ensures.value, size)

pub lay-returns-in_err-below-in-Structs : goal.lay-returns-in_err-below-in-Structs
lay-returns-in_err-below-in-Structs t c =
    let price = ap (λ k. 2 + k * (1 + c.in-Structs.list.words + c.in-Structs.list.ptrs)) c.len.ensures.value in
    let p = err_from_is_err_and c.from_residual-in_err-below-in-Structs.result c.from_residual-in_err-below-in-Structs.ensures.1 in
    rw (p.1, p.2, ← c.in-Structs.ensures) (not_charged (Unit {0}) c.args.arena.now c.charge-in-Structs.new.self c.args.levels _ _ _ c.in_err-below-in-Structs.field-0.0 _ c.in_err-below-in-Structs.ensures (omega arith) (omega (arith, price)))

pub lay-returns-in_err-first-in-Structs : goal.lay-returns-in_err-first-in-Structs
lay-returns-in_err-first-in-Structs t c =
    let A = c.args.arena.now in
    let B = c.charge-in-Structs.new.self in
    let list = c.in-Structs.list in
    let e = c.in_err-first-in-Structs.field-0.0 in
    let p = err_from_is_err_and c.from_residual-in_err-first-in-Structs.result c.from_residual-in_err-first-in-Structs.ensures.1 in
    rw (p.1, p.2, ← c.in-Structs.ensures) (refused A B c.args.levels _ _ c.in_ok-below-in-Structs.ensures (Unit {0}) c.begin_structs.new.arena c.args.at (structs list.words list.ptrs (bodies_of (bodies_in list.items))) e c.in_err-first-in-Structs.ensures)

pub lay-returns-in_ok-first-in-Structs : goal.lay-returns-in_ok-first-in-Structs
lay-returns-in_ok-first-in-Structs t c =
    let list = c.in-Structs.list in
    let price = ap (λ k. 2 + k * (1 + list.words + list.ptrs)) c.len.ensures.value in
    let bodies = c.lay_bodies in
    bodies_hung c.args.arena.now c.charge-in-Structs.new.self c.args.levels _ _ c.in_ok-below-in-Structs.ensures c.begin_structs.new.arena bodies.new.arena c.args.at c.in_ok-first-in-Structs.first bodies.result _
    list.words list.ptrs (bodies_of (bodies_in list.items)) (sym c.in-Structs.ensures) c.in_ok-first-in-Structs.ensures (omega (arith, price)) bodies.ensures

pub lay_row-lay_pointer-requires : goal.lay_row-lay_pointer-requires
lay_row-lay_pointer-requires t c =
    let l = c.loop-tree in
    let needs = tree_needs c.args.arena.now l.arena l.at _ _ _ _ (ap nodes_of c.in-Some.ensures.steps) l.invariant.0 in
    (omega (arith, c.decreases), (needs.0, (needs.1, needs.2)))

pub lay_row-returns-in_err-lay_pointer : goal.lay_row-returns-in_err-lay_pointer
lay_row-returns-in_err-lay_pointer t c =
    let A = c.args.arena.now in
    let l = c.loop-tree in
    let e = c.in_err-lay_pointer.field-0.0 in
    let next = ap nodes_of c.in-Some.ensures.steps in
    let p = err_from_is_err_and c.from_residual.result c.from_residual.ensures.1 in
    rw (p.1, p.2) (stops (Unit {0}) A l.arena c.lay_pointer.new.arena c.args.levels _ _ _ _ _ _ _ _ e _ _ (ap greatest_depth next) (ap total_cost next) l.invariant.1 c.in_err-lay_pointer.ensures (tree_refused A l.arena l.at _ _ _ _ next l.invariant.0 e))

pub lay_row-loop-tree-preserved : goal.lay_row-loop-tree-preserved
lay_row-loop-tree-preserved t c =
    let A = c.args.arena.now in
    let l = c.loop-tree in
    let next = ap nodes_of c.in-Some.ensures.steps in
    let ok = c.in_ok-lay_pointer.ensures in
    let row = row_next A l.arena l.at _ _ _ _ next l.invariant.0 c.lay_pointer.new.arena ok.2 ok.3 ok.4 in
    (row, goes_on c.args.levels A.budget l.arena.budget _ _ _ _ _ _ _ _ (ap greatest_depth next) (ap total_cost next) l.invariant.1 c.lay_pointer.new.arena.budget ok.0 ok.1)

pub lay_bodies-returns-then-list-eq0 : goal.lay_bodies-returns-then-list-eq0
lay_bodies-returns-then-list-eq0 t c =
    let A = c.args.arena.now in
    let at = c.args.first in
    let list = c.args.list in
    let bs = bodies_of (bodies_in list.items) in
    let none = no_pointers list.words list.ptrs bs (omega arith) c.requires.even in
    (omega (arith, none.0), omega (arith, none.1), sym (nothing_hangs_on A.capacity at.segment at.word list.words list.ptrs bs (written A) (omega arith) c.requires.even), c.requires.keeps, refl)

pub lay_bodies-lay_row-requires : goal.lay_bodies-lay_row-requires
lay_bodies-lay_row-requires t c =
    let l = c.loop-body in
    let list = c.args.list in
    let needs = body_needs c.args.arena.now l.arena l.at list.words list.ptrs _ _ _ _ _ (ap bodies_of c.in-Some.ensures.steps) l.invariant.0 in
    (omega (arith, c.decreases), (needs.0, (needs.1, needs.2)))

pub lay_bodies-returns-in_err-lay_row : goal.lay_bodies-returns-in_err-lay_row
lay_bodies-returns-in_err-lay_row t c =
    let A = c.args.arena.now in
    let l = c.loop-body in
    let list = c.args.list in
    let e = c.in_err-lay_row.field-0.0 in
    let next = ap bodies_of c.in-Some.ensures.steps in
    let p = err_from_is_err_and c.from_residual.result c.from_residual.ensures.1 in
    rw (p.1, p.2) (stops (Unit {0}) A l.arena c.lay_row.new.arena c.args.levels _ _ _ _ _ _ _ _ e _ _ (ap deepest_body next) (ap body_cost next) l.invariant.1 c.in_err-lay_row.ensures (body_refused A l.arena l.at list.words list.ptrs _ _ _ _ _ next l.invariant.0 e))

pub lay_bodies-loop-body-preserved : goal.lay_bodies-loop-body-preserved
lay_bodies-loop-body-preserved t c =
    let A = c.args.arena.now in
    let l = c.loop-body in
    let list = c.args.list in
    let next = ap bodies_of c.in-Some.ensures.steps in
    let ok = c.in_ok-lay_row.ensures in
    let row = bodies_next A l.arena l.at list.words list.ptrs _ _ _ _ _ next l.invariant.0 c.lay_row.new.arena ok.2 ok.3 ok.4 in
    (row, goes_on c.args.levels A.budget l.arena.budget _ _ _ _ _ _ _ _ (ap deepest_body next) (ap body_cost next) l.invariant.1 c.lay_row.new.arena.budget ok.0 ok.1)
