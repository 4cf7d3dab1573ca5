use Rattle.std.proofs.Common.{◌≡◌, map, take}
use Rattle.cp_tree.specs.NodeOf.{node_of, body_of}
use Rattle.cp_fields.specs.Constants.{constant_of, constant_body_of}
use Rattle.cp_fields.proofs.constant.+constant_copy.Given as goal

abbrev pub invariant-row_copy-loop-tree : goal.invariant-row_copy-loop-tree
invariant-row_copy-loop-tree l = map node_of l.found.items ≡ map constant_of (take l.tree-index l.trees)

abbrev pub invariant-bodies_copy-loop-body : goal.invariant-bodies_copy-loop-body
invariant-bodies_copy-loop-body l = map body_of l.found.items ≡ map constant_body_of (take l.body-index l.bodies)
