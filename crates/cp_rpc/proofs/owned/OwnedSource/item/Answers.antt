use Rattle.std.proofs.Common.{◌≡◌, sym, subst, ◌∙◌, ◌<◌, ap, length, slice_index_or}
use Rattle.cp_tree.specs.Shaped.{Shaped}
use Rattle.cp_tree.specs.Node.{Node, null}
use Rattle.cp_tree.specs.NodeOf.{node_of}
use Rattle.cp_messages.specs.Fields.{items_of}
use Rattle.cp_rpc.specs.OwnedNode.{part_node, body_node}
use Rattle.cp_rpc.specs.declared.owned.TreePart.{TreePart}
use Rattle.cp_rpc.proofs.Parts.{shaped_item, item_at}
use Rattle.cp_rpc.proofs.owned.OwnedSource.item.Goals as goal

pub invariant_of-result : goal.invariant_of-result
invariant_of-result c =
    let shaped = subst (λ (p : TreePart). Shaped (part_node p)) c.in-Tree.is c.self.invariant in
    let within : c.args.i < length (items_of (node_of c.in-Tree.tree.now)) = subst (λ (p : TreePart). c.args.i < length (items_of (part_node p))) c.in-Tree.is (subst (λ (t : Node). c.args.i < length (items_of t)) (sym c.self.view_is) c.requires) in
    let item : slice_index_or (items_of (node_of c.in-Tree.tree.now)) c.args.i null ≡ body_node c.index-items_in-i.result =
    item_at _ _ _ _ c.items_in.ensures within ∙ ap body_node (sym c.index-items_in-i.is) in
    subst Shaped item (shaped_item _ c.args.i shaped)
