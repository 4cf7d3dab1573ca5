use Rattle.std.proofs.Common.{◌≡◌, ◌++◌, map, drop, replicate}
use Rattle.cp_tree.specs.Node.{null}
use Rattle.cp_tree.specs.NodeOf.{node_of, body_of, nodes_of}
use Rattle.cp_encoder.specs.Values.{value_node, fields_body, placed, with_all_nodes}
use Rattle.cp_encoder.proofs.making.+make.Given as goal

abbrev pub invariant-trees_of-loop-value : goal.invariant-trees_of-loop-value
invariant-trees_of-loop-value l = map node_of l.trees.items ++ map value_node (drop l.value-index l.values) ≡ map value_node l.values

abbrev pub invariant-bodies_of-loop-fields : goal.invariant-bodies_of-loop-fields
invariant-bodies_of-loop-fields l = map body_of l.bodies.items ++ map fields_body (drop l.fields-index l.items) ≡ map fields_body l.items

abbrev pub invariant-pointers_of-loop-pointer : goal.invariant-pointers_of-loop-pointer
invariant-pointers_of-loop-pointer l =
    with_all_nodes (nodes_of (map node_of l.trees.items)) (map placed (drop l.pointer-index l.given))
    ≡ with_all_nodes (nodes_of (replicate l.count null)) (map placed l.given)
