use Rattle.std.proofs.Common.{rules, ◌≡◌, ◌+◌, ◌<◌, ◌≤◌, arith, ap, sym, refl, ◌∙◌}
use Rattle.std.specs.Prelude.{ℕ, List}
use Rattle.std.proofs.lemmas.List.{map_push}
use Rattle.cp_tree.specs.Node.{Nodes, struct, count, number_of, depth}
use Rattle.cp_tree.specs.NodeOf.{node_of, body_of}
use Rattle.cp_words.specs.Segments.{words_of}
use Rattle.cp_reading.specs.Viewed.{viewed_node}
use Rattle.cp_reading.specs.Rows.{struct_at, trees_from}
use Rattle.cp_tree.specs.Seen.{node_at, body_at}
use Rattle.cp_reading.specs.Visited.{pointers, pointers_of_row}
use Rattle.cp_reading.specs.declared.view.Viewed.TheVariants as viewed
use Rattle.cp_reading.proofs.Builds.{one_more_tree, all_trees, one_more_body, all_bodies, no_pointers, no_elements, more_pointers, all_pointers, few_pointers, more_elements, all_elements, few_elements}
use Rattle.cp_reading.proofs.Built.{row_count, row_word, row_deep, no_row, structs_count, the_elements, element_part, element_node, element_depth}
use Rattle.cp_tree.proofs.Trees.{body_of-is, node-Null}
use Rattle.cp_tree.proofs.Shapes.{node-Struct}
use Rattle.cp_reading.proofs.Views.{ok_is_ok, read-node}
use Rattle.cp_reading.proofs.build.Builder.+build.Goals as goal

pub build_bodies-loop-i-init : goal.build_bodies-loop-i-init
build_bodies-loop-i-init g t c = (search rules, omega (arith, no_elements (the_elements (words_of c.args.self.now.segments.now) c.args.first c.args.words c.args.ptrs c.args.number c.requires)), refl, refl)

pub build_bodies-build_body-requires : goal.build_bodies-build_body-requires
build_bodies-build_body-requires g t c κs le =
    let within : c.loop-i.i < c.args.number = omega arith in
    let nests = element_depth (words_of c.args.self.now.segments.now) c.args.first c.args.words c.args.ptrs c.args.number c.requires c.loop-i.i within in
    rw c.loop-i.invariant.2 (omega (arith, nests), (le, element_part (words_of c.args.self.now.segments.now) c.args.first c.args.words c.args.ptrs c.args.number c.requires c.loop-i.i within))

pub build_bodies-loop-i-preserved : goal.build_bodies-loop-i-preserved
build_bodies-loop-i-preserved g t c =
    let S = words_of c.args.self.now.segments.now in
    let bs = the_elements S c.args.first c.args.words c.args.ptrs c.args.number c.requires in
    let before : c.loop-i.i < c.args.number = omega arith in
    let within : c.loop-i.i < number_of bs = rw (structs_count S c.args.first c.args.words c.args.ptrs c.args.number c.requires) before in
    let part = element_node S c.args.first c.args.words c.args.ptrs c.args.number c.requires c.loop-i.i before in
    let visited : c.build_body.new.self.visits.now ≡ c.loop-i.self.visits.now + pointers (body_at bs c.loop-i.i) = rw (← part) (rw c.loop-i.invariant.2 at c.in_ok-build_body.ensures.exact) in (
      rw (c.in_ok-push.ensures.items, map_push body_of c.loop-i.found.items c.in_ok-build_body.field-0) (one_more_body _ _ _ _ c.loop-i.invariant.0 within ((rw c.loop-i.invariant.2 at c.in_ok-build_body.ensures.body) ∙ part)),
      omega (arith, visited, c.loop-i.invariant.1, more_elements bs c.loop-i.i within),
      c.in_ok-build_body.ensures.same ∙ c.loop-i.invariant.2,
      c.in_ok-build_body.ensures.lent ∙ c.loop-i.invariant.3,
    )

pub build_bodies-returns-in_err-build_body-clause-few : goal.build_bodies-returns-in_err-build_body-clause-few
build_bodies-returns-in_err-build_body-clause-few g t c =
    let S = words_of c.args.self.now.segments.now in
    let bs = the_elements S c.args.first c.args.words c.args.ptrs c.args.number c.requires in
    let before : c.loop-i.i < c.args.number = omega arith in
    let within : c.loop-i.i < number_of bs = rw (structs_count S c.args.first c.args.words c.args.ptrs c.args.number c.requires) before in
    let part = element_node S c.args.first c.args.words c.args.ptrs c.args.number c.requires c.loop-i.i before in
    let visited : c.build_body.new.self.visits.now ≤ c.loop-i.self.visits.now + pointers (body_at bs c.loop-i.i) = rw (← part) (rw c.loop-i.invariant.2 at c.in_err-build_body.ensures.few) in
    omega (arith, visited, c.loop-i.invariant.1, more_elements bs c.loop-i.i within, few_elements bs (c.loop-i.i + 1))

pub build_bodies-returns-in_err-push-clause-few : goal.build_bodies-returns-in_err-push-clause-few
build_bodies-returns-in_err-push-clause-few g t c =
    let S = words_of c.args.self.now.segments.now in
    let bs = the_elements S c.args.first c.args.words c.args.ptrs c.args.number c.requires in
    let before : c.loop-i.i < c.args.number = omega arith in
    let within : c.loop-i.i < number_of bs = rw (structs_count S c.args.first c.args.words c.args.ptrs c.args.number c.requires) before in
    let part = element_node S c.args.first c.args.words c.args.ptrs c.args.number c.requires c.loop-i.i before in
    let visited : c.build_body.new.self.visits.now ≤ c.loop-i.self.visits.now + pointers (body_at bs c.loop-i.i) = rw (← part) (rw c.loop-i.invariant.2 at c.in_ok-build_body.ensures.few) in
    omega (arith, visited, c.loop-i.invariant.1, more_elements bs c.loop-i.i within, few_elements bs (c.loop-i.i + 1))

pub build_bodies-returns : goal.build_bodies-returns
build_bodies-returns g t c =
    let S = words_of c.args.self.now.segments.now in
    let bs = the_elements S c.args.first c.args.words c.args.ptrs c.args.number c.requires in
    let end : number_of bs ≤ c.loop-i.i = omega (arith, structs_count S c.args.first c.args.words c.args.ptrs c.args.number c.requires) in
    let all = all_elements bs c.loop-i.i end in
    record { bodies = all_bodies _ _ _ c.loop-i.invariant.0 end; exact = omega (arith, all, c.loop-i.invariant.1); few = omega (arith, all, c.loop-i.invariant.1); same = c.loop-i.invariant.2; lent = c.loop-i.invariant.3 }

pub build_ptrs-returns-then-number-eq0-clause-row : goal.build_ptrs-returns-then-number-eq0-clause-row
build_ptrs-returns-then-number-eq0-clause-row g t c =
    let none : count (trees_from (words_of c.args.self.now.segments.now) c.args.first c.args.number) ≡ 0 = omega (arith, row_count (words_of c.args.self.now.segments.now) c.args.first c.args.number c.requires) in
    rw c.new.ensures.items (no_row _ none)

pub build_ptrs-returns-then-number-eq0-clause-exact : goal.build_ptrs-returns-then-number-eq0-clause-exact
build_ptrs-returns-then-number-eq0-clause-exact g t c =
    let none : count (trees_from (words_of c.args.self.now.segments.now) c.args.first c.args.number) ≡ 0 = omega (arith, row_count (words_of c.args.self.now.segments.now) c.args.first c.args.number c.requires) in
    omega (arith, ap pointers_of_row (no_row _ none))

pub build_row-loop-i-init : goal.build_row-loop-i-init
build_row-loop-i-init g t c = (search rules, omega (arith, no_pointers (trees_from (words_of c.args.self.now.segments.now) c.args.first c.args.number)), refl, refl)

pub build_row-viewed_at-requires-clause-checked : goal.build_row-viewed_at-requires-clause-checked
build_row-viewed_at-requires-clause-checked g t c =
    let within : c.loop-i.i < c.args.number = omega arith in
    rw c.loop-i.invariant.2 (ok_is_ok _ _ (row_word (words_of c.args.self.now.segments.now) c.args.first c.args.number c.requires c.loop-i.i within).1)

pub build_row-build-requires : goal.build_row-build-requires
build_row-build-requires g t c κs le =
    let S = words_of c.args.self.now.segments.now in
    let within : c.loop-i.i < c.args.number = omega arith in
    let part = (rw c.loop-i.invariant.2 at c.viewed_at.ensures.node) ∙ read-node _ _ _ (row_word S c.args.first c.args.number c.requires c.loop-i.i within).1 in
    let nests : depth (viewed_node S c.viewed_at.result) < depth (viewed_node S (viewed.Body (struct_at c.args.first 0 c.args.number))) = rw part (row_deep S c.args.first c.args.number c.requires c.loop-i.i within) in
    rw c.loop-i.invariant.2 (omega (arith, nests), (le, rw c.loop-i.invariant.2 at c.viewed_at.ensures.part))

pub build_row-loop-i-preserved : goal.build_row-loop-i-preserved
build_row-loop-i-preserved g t c =
    let S = words_of c.args.self.now.segments.now in
    let ts = trees_from S c.args.first c.args.number in
    let before : c.loop-i.i < c.args.number = omega arith in
    let within : c.loop-i.i < count ts = rw (row_count S c.args.first c.args.number c.requires) before in
    let part = (rw c.loop-i.invariant.2 at c.viewed_at.ensures.node) ∙ read-node _ _ _ (row_word S c.args.first c.args.number c.requires c.loop-i.i before).1 in
    let visited : c.build.new.self.visits.now ≡ c.tick.new.self + pointers (node_at ts c.loop-i.i) = rw (← part) (rw c.loop-i.invariant.2 at c.in_ok-build.ensures.exact) in (
      rw (c.in_ok-push.ensures.items, map_push node_of c.loop-i.found.items c.in_ok-build.field-0) (one_more_tree _ _ _ _ c.loop-i.invariant.0 within ((rw c.loop-i.invariant.2 at c.in_ok-build.ensures.tree) ∙ part)),
      omega (arith, visited, c.tick.ensures, c.loop-i.invariant.1, more_pointers ts c.loop-i.i within),
      c.in_ok-build.ensures.same ∙ c.loop-i.invariant.2,
      c.in_ok-build.ensures.lent ∙ c.loop-i.invariant.3,
    )

pub build_row-returns-in_err-build-clause-few : goal.build_row-returns-in_err-build-clause-few
build_row-returns-in_err-build-clause-few g t c =
    let S = words_of c.args.self.now.segments.now in
    let ts = trees_from S c.args.first c.args.number in
    let before : c.loop-i.i < c.args.number = omega arith in
    let within : c.loop-i.i < count ts = rw (row_count S c.args.first c.args.number c.requires) before in
    let part = (rw c.loop-i.invariant.2 at c.viewed_at.ensures.node) ∙ read-node _ _ _ (row_word S c.args.first c.args.number c.requires c.loop-i.i before).1 in
    let visited : c.build.new.self.visits.now ≤ c.tick.new.self + pointers (node_at ts c.loop-i.i) = rw (← part) (rw c.loop-i.invariant.2 at c.in_err-build.ensures.few) in
    omega (arith, visited, c.tick.ensures, c.loop-i.invariant.1, more_pointers ts c.loop-i.i within, few_pointers ts (c.loop-i.i + 1))

pub build_row-returns-in_err-push-clause-few : goal.build_row-returns-in_err-push-clause-few
build_row-returns-in_err-push-clause-few g t c =
    let S = words_of c.args.self.now.segments.now in
    let ts = trees_from S c.args.first c.args.number in
    let before : c.loop-i.i < c.args.number = omega arith in
    let within : c.loop-i.i < count ts = rw (row_count S c.args.first c.args.number c.requires) before in
    let part = (rw c.loop-i.invariant.2 at c.viewed_at.ensures.node) ∙ read-node _ _ _ (row_word S c.args.first c.args.number c.requires c.loop-i.i before).1 in
    let visited : c.build.new.self.visits.now ≤ c.tick.new.self + pointers (node_at ts c.loop-i.i) = rw (← part) (rw c.loop-i.invariant.2 at c.in_ok-build.ensures.few) in
    omega (arith, visited, c.tick.ensures, c.loop-i.invariant.1, more_pointers ts c.loop-i.i within, few_pointers ts (c.loop-i.i + 1))

pub build_row-returns : goal.build_row-returns
build_row-returns g t c =
    let ts = trees_from (words_of c.args.self.now.segments.now) c.args.first c.args.number in
    let end : count ts ≤ c.loop-i.i = omega (arith, row_count (words_of c.args.self.now.segments.now) c.args.first c.args.number c.requires) in
    let all = all_pointers ts c.loop-i.i end in
    record { row = all_trees _ _ _ c.loop-i.invariant.0 end; exact = omega (arith, all, c.loop-i.invariant.1); few = omega (arith, all, c.loop-i.invariant.1); same = c.loop-i.invariant.2; lent = c.loop-i.invariant.3 }

pub build-returns-in-Null-clause-tree : goal.build-returns-in-Null-clause-tree
build-returns-in-Null-clause-tree g t c = rw c.in-Null.is node-Null

pub build_area-returns-in_ok-build_body-in-Struct-clause-tree : goal.build_area-returns-in_ok-build_body-in-Struct-clause-tree
build_area-returns-in_ok-build_body-in-Struct-clause-tree g t c =
    let b = c.in_ok-build_body-in-Struct.field-0 in
    let a = c.args.area in
    node-Struct b
    ∙ ap (λ (p : List ℕ × Nodes). struct p.0 p.1) (sym (body_of-is b))
    ∙ c.in_ok-build_body-in-Struct.ensures.body
    ∙ ap (λ f. viewed_node (words_of c.args.self.now.segments.now) (viewed.Body (record { form = f; segment = a.segment; start = a.start }))) (sym c.in-Struct.is)
