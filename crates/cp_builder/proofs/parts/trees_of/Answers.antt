use Rattle.std.proofs.Common.{◌≡◌, List, [], ◌∷◌, ◌++◌, map, ap, subst, sym, ◌∙◌}
use Rattle.cp_tree.specs.Node.{Node}
use Rattle.cp_tree.specs.NodeOf.{node_of, nodes_of}
use Rattle.cp_tree.specs.Shaped.{Shaped, EachShaped}
use Rattle.cp_tree.specs.declared.tree.Tree.{Tree}
use Rattle.cp_builder.proofs.Rows.{map_last, shaped_last}
use Rattle.cp_builder.proofs.parts.trees_of.Goals as goal

pub loop-whole-preserved : goal.loop-whole-preserved
loop-whole-preserved c =
    let grown : c.push.new.self.items ≡ c.loop-whole.trees.items ++ c.into_tree.result ∷ [] = c.in_ok-push.ensures.items in (
      ap (λ (ts : List Tree). map node_of ts) grown ∙ map_last c.loop-whole.trees.items c.into_tree.result
          ∙ ap (λ (t : Node). map node_of c.loop-whole.trees.items ++ t ∷ []) c.into_tree.ensures.tree
          ∙ ap (λ (ts : List Node). ts ++ c.in-Some.whole ∷ []) c.loop-whole.invariant.0,
      subst (λ (ts : List Tree). EachShaped (nodes_of (map node_of ts))) (sym grown)
          (shaped_last c.loop-whole.trees.items c.into_tree.result c.loop-whole.invariant.1 (subst (λ (t : Node). Shaped t) (sym c.into_tree.ensures.tree) c.into_tree.ensures.shaped)),
    )
