use Rattle.std.proofs.Common.{◌≡◌, map, replicate}
use Rattle.cp_tree.specs.Node.{null}
use Rattle.cp_tree.specs.NodeOf.{node_of}
use Rattle.cp_encoder.proofs.making.nulls.Given as goal

abbrev pub invariant-loop : goal.invariant-loop
invariant-loop l = map node_of l.trees.items ≡ replicate l.counter null
