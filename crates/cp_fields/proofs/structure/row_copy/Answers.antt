use Rattle.std.proofs.Common.{List, map, ap, ◌∙◌}
use Rattle.cp_tree.specs.NodeOf.{node_of}
use Rattle.cp_tree.specs.declared.tree.Tree.{Tree}
use Rattle.cp_fields.proofs.Owned.{copied_one}
use Rattle.cp_fields.proofs.structure.row_copy.Goals as goal

pub loop-tree-preserved : goal.loop-tree-preserved
loop-tree-preserved c =
    ap (λ (ts : List Tree). map node_of ts) c.in_ok-push.ensures.items
    ∙ copied_one c.args.trees.now c.loop-tree.found.items c.loop-tree.tree-index c.tree-item.result c.in_ok-tree_copy.field-0 c.loop-tree.invariant c.loop-tree-test.true c.tree-item.is c.in_ok-tree_copy.ensures
