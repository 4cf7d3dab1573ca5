use Rattle.std.proofs.Common.{◌≡◌, map, take}
use Rattle.cp_tree.specs.NodeOf.{node_of}
use Rattle.cp_refs.specs.Kept.{pointers_of}
use Rattle.cp_refs.proofs.pointers.+pointers.Given as goal

abbrev pub invariant-all_pointers_of-loop-tree : goal.invariant-all_pointers_of-loop-tree
invariant-all_pointers_of-loop-tree l = map node_of l.found.items ≡ map (λ t. pointers_of (node_of t)) (take l.tree-index l.trees)
