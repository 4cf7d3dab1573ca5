use Rattle.std.proofs.Common.{map, drop}
use Rattle.cp_tree.specs.NodeOf.{node_of, body_of, nodes_of, bodies_of}
use Rattle.cp_tree.specs.Shaped.{EachShaped, EachEven}
use Rattle.cp_tree.proofs.shaped.+shaped.Given as goal

abbrev pub invariant-bodies_even-loop-body : goal.invariant-bodies_even-loop-body
invariant-bodies_even-loop-body l =
    (EachEven l.words l.ptrs (bodies_of (map body_of (drop l.body-index l.bodies))) → EachEven l.words l.ptrs (bodies_of (map body_of l.bodies)))
    × (EachEven l.words l.ptrs (bodies_of (map body_of l.bodies)) → EachEven l.words l.ptrs (bodies_of (map body_of (drop l.body-index l.bodies))))

abbrev pub invariant-row_shaped-loop-tree : goal.invariant-row_shaped-loop-tree
invariant-row_shaped-loop-tree l =
    (EachShaped (nodes_of (map node_of (drop l.tree-index l.trees))) → EachShaped (nodes_of (map node_of l.trees)))
    × (EachShaped (nodes_of (map node_of l.trees)) → EachShaped (nodes_of (map node_of (drop l.tree-index l.trees))))
