use Rattle.std.proofs.Common.{◌≡◌, ◌+◌, ◌*◌, ◌≤◌, ◌++◌, map}
use Rattle.cp_tree.specs.Node.{depth, greatest_depth, deepest_body}
use Rattle.cp_tree.specs.NodeOf.{node_of, body_of, nodes_of, bodies_of}
use Rattle.cp_tree.specs.Lent.{node_in, row_in, bodies_in}
use Rattle.cp_tree.proofs.copy.+copy.Given as goal

abbrev pub invariant-row_copy-loop-tree : goal.invariant-row_copy-loop-tree
invariant-row_copy-loop-tree l =
    (map node_of l.found.items ++ row_in l.tree-iterator ≡ row_in l.fn.trees)
    × (greatest_depth (nodes_of (row_in l.tree-iterator)) ≤ greatest_depth (nodes_of (row_in l.fn.trees)))

abbrev pub invariant-bodies_copy-loop-body : goal.invariant-bodies_copy-loop-body
invariant-bodies_copy-loop-body l =
    (map body_of l.found.items ++ bodies_in l.body-iterator ≡ bodies_in l.fn.bodies)
    × (deepest_body (bodies_of (bodies_in l.body-iterator)) ≤ deepest_body (bodies_of (bodies_in l.fn.bodies)))

abbrev pub decreases-tree_copy : goal.decreases-tree_copy
decreases-tree_copy l = 4 * depth (node_in l.tree) + 1

abbrev pub decreases-row_copy : goal.decreases-row_copy
decreases-row_copy l = 4 * greatest_depth (nodes_of (row_in l.trees)) + 2

abbrev pub decreases-body_copy : goal.decreases-body_copy
decreases-body_copy l = 4 * greatest_depth (nodes_of (row_in l.body.ptrs)) + 3

abbrev pub decreases-bodies_copy : goal.decreases-bodies_copy
decreases-bodies_copy l = 4 * deepest_body (bodies_of (bodies_in l.bodies)) + 4
