use Rattle.std.proofs.Common.{sym, subst}
use Rattle.cp_tree.specs.Shaped.{Shaped}
use Rattle.cp_rpc.specs.OwnedNode.{part_node}
use Rattle.cp_rpc.specs.declared.owned.TreePart.{TreePart}
use Rattle.cp_rpc.specs.declared.owned.TreePart.TheVariants as parts
use Rattle.cp_rpc.proofs.Parts.{shaped_pointee}
use Rattle.cp_rpc.proofs.owned.OwnedSource.pointer.Goals as goal

pub of-requires : goal.of-requires
of-requires c =
    let shaped = subst (λ (p : TreePart). Shaped (part_node p)) c.in-Tree.is c.self.invariant in
    subst Shaped (sym c.in-Some.ensures) (shaped_pointee (part_node (parts.Tree c.in-Tree.tree)) c.args.i shaped)

pub of-requires-in-Some-pointer : goal.of-requires-in-Some-pointer
of-requires-in-Some-pointer c =
    let shaped = subst (λ (p : TreePart). Shaped (part_node p)) c.in-Body.is c.self.invariant in
    subst Shaped (sym c.in-Some-pointer.ensures) (shaped_pointee (part_node (parts.Body c.in-Body.body)) c.args.i shaped)
