use Rattle.std.proofs.Common.{◌≡◌, map, take}
use Rattle.cp_tree.specs.NodeOf.{node_of}
use Rattle.cp_fields.proofs.structure.row_copy.Given as goal

abbrev pub invariant-loop-tree : goal.invariant-loop-tree
invariant-loop-tree l = map node_of l.found.items ≡ take l.tree-index (map node_of l.trees)
