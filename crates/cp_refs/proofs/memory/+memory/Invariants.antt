use Rattle.std.proofs.Common.{◌+◌, ◌*◌}
use Rattle.cp_tree.specs.Node.{depth, greatest_depth, deepest_body}
use Rattle.cp_tree.specs.NodeOf.{nodes_of, bodies_of}
use Rattle.cp_tree.specs.Lent.{node_in, row_in, bodies_in}
use Rattle.cp_refs.proofs.Measuring.{RowIsLeft, BodiesAreLeft}
use Rattle.cp_refs.proofs.memory.+memory.Given as goal

abbrev pub invariant-row_memory-loop-tree : goal.invariant-row_memory-loop-tree
invariant-row_memory-loop-tree l = RowIsLeft (nodes_of (row_in l.fn.trees)) (nodes_of (row_in l.tree-iterator)) l.bytes

abbrev pub invariant-bodies_memory-loop-body : goal.invariant-bodies_memory-loop-body
invariant-bodies_memory-loop-body l = BodiesAreLeft (bodies_of (bodies_in l.fn.bodies)) (bodies_of (bodies_in l.body-iterator)) l.bytes

abbrev pub decreases-tree_memory : goal.decreases-tree_memory
decreases-tree_memory l = 4 * depth (node_in l.tree) + 1

abbrev pub decreases-row_memory : goal.decreases-row_memory
decreases-row_memory l = 4 * greatest_depth (nodes_of (row_in l.trees)) + 2

abbrev pub decreases-struct_memory : goal.decreases-struct_memory
decreases-struct_memory l = 4 * greatest_depth (nodes_of (row_in l.body.ptrs)) + 3

abbrev pub decreases-bodies_memory : goal.decreases-bodies_memory
decreases-bodies_memory l = 4 * deepest_body (bodies_of (bodies_in l.bodies)) + 4
