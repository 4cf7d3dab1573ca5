-- The tree that a part of an owned tree is.
use Rattle.cp_tree.specs.Node.{Node, null, struct}
use Rattle.cp_tree.specs.NodeOf.{node_of, body_of}
use Rattle.cp_tree.specs.declared.tree.Body.{Body}
use Rattle.cp_rpc.specs.declared.owned.TreePart.{TreePart}
use Rattle.cp_rpc.specs.declared.owned.TreePart.TheVariants as parts

abbrev pub body_node : Body → Node
body_node b = struct (body_of b).0 (body_of b).1

abbrev pub part_node : TreePart → Node
part_node parts.Null = null
part_node (parts.Tree t) = node_of t.now
part_node (parts.Body b) = body_node b.now
