use Rattle.std.proofs.Common.{◌+◌, ◌*◌}
use Rattle.cp_tree.specs.Node.{greatest_depth, deepest_body, total_cost, body_cost}
use Rattle.cp_tree.specs.NodeOf.{nodes_of, bodies_of}
use Rattle.cp_tree.specs.Lent.{row_in, bodies_in}
use Rattle.cp_writing.specs.Writing.{row_on, bodies_on}
use Rattle.cp_writing.proofs.Hanging.{Going}
use Rattle.cp_writing.proofs.Steps.{RowKept, BodiesKept}
use Rattle.cp_writing.proofs.lay.+lay.Given as goal

abbrev pub invariant-lay_row-loop-tree : goal.invariant-lay_row-loop-tree
invariant-lay_row-loop-tree l =
    let all = nodes_of (row_in l.fn.trees) in
    let rest = nodes_of (row_in l.tree-iterator) in
    RowKept l.initial.arena l.arena l.at rest (row_on l.initial.arena l.fn.first all)
    × Going l.levels l.initial.arena.budget l.arena.budget (greatest_depth all) (total_cost all) (greatest_depth rest) (total_cost rest)

abbrev pub invariant-lay_bodies-loop-body : goal.invariant-lay_bodies-loop-body
invariant-lay_bodies-loop-body l =
    let list = l.fn.list in
    let all = bodies_of (bodies_in list.items) in
    let rest = bodies_of (bodies_in l.body-iterator) in
    BodiesKept l.initial.arena l.arena l.at list.words list.ptrs rest (bodies_on l.initial.arena l.fn.first list.words list.ptrs all)
    × Going l.levels l.initial.arena.budget l.arena.budget (deepest_body all) (body_cost all) (deepest_body rest) (body_cost rest)

abbrev pub decreases-lay : goal.decreases-lay
decreases-lay l = 4 * l.levels + 1

abbrev pub decreases-lay_pointer : goal.decreases-lay_pointer
decreases-lay_pointer l = 4 * l.levels + 2

abbrev pub decreases-lay_row : goal.decreases-lay_row
decreases-lay_row l = 4 * l.levels + 3

abbrev pub decreases-lay_bodies : goal.decreases-lay_bodies
decreases-lay_bodies l = 4 * l.levels + 4
