use Rattle.std.proofs.Common.{◌≡◌, map}
use Rattle.cp_tree.specs.NodeOf.{node_of, nodes_of}
use Rattle.cp_tree.specs.Shaped.{EachShaped}
use Rattle.cp_builder.proofs.parts.trees_of.Given as goal

abbrev pub invariant-loop-whole : goal.invariant-loop-whole
invariant-loop-whole l = (map node_of l.trees.items ≡ l.yielded) × EachShaped (nodes_of (map node_of l.trees.items))
