use Rattle.std.proofs.Common.{◌≡◌, ◌≤◌, ℕ, List, length, map, ap, sym, subst, ◌∙◌}
use Rattle.std.proofs.lemmas.List.{length-set}
use Rattle.cp_tree.specs.Node.{Node, struct}
use Rattle.cp_tree.specs.NodeOf.{node_of, nodes_of}
use Rattle.cp_tree.specs.Shaped.{EachShaped, HasSizes, Shaped}
use Rattle.cp_tree.specs.declared.tree.Tree.{Tree}
use Rattle.cp_builder.specs.Drafts.{with_node}
use Rattle.cp_builder.proofs.Rows.{set_trees, set_shaped}
use Rattle.cp_builder.proofs.structure.StructBuilder.set_pointer.Goals as goal

pub invariant_of-self : goal.invariant_of-self
invariant_of-self g c =
    let same : length c.put_tree.new.trees.items ≡ length c.self.inside.pointers.items = ap (λ (ts : List Tree). length ts) c.put_tree.ensures ∙ length-set c.self.inside.pointers.items c.args.i c.into_tree.result in (
      subst (λ (n : ℕ). HasSizes (length c.self.inside.words.items) n) (sym same) c.self.invariant.0,
      c.self.invariant.1,
      subst (λ (n : ℕ). g.row.P ≤ n) (sym same) c.self.invariant.2,
      subst (λ (ts : List Tree). EachShaped (nodes_of (map node_of ts))) (sym c.put_tree.ensures) (set_shaped c.self.inside.pointers.items c.args.i c.into_tree.result c.self.invariant.3 (subst (λ (t : Node). Shaped t) (sym c.into_tree.ensures.tree) c.into_tree.ensures.shaped)),
    )

pub returns : goal.returns
returns g c =
    rw (← c.self.view_is)
    (ap (λ (ts : List Tree). struct c.self.inside.words.items (nodes_of (map node_of ts))) c.put_tree.ensures
    ∙ ap (λ ts. struct c.self.inside.words.items ts) (set_trees c.self.inside.pointers.items c.args.i c.into_tree.result)
    ∙ ap (λ t. struct c.self.inside.words.items (with_node (nodes_of (map node_of c.self.inside.pointers.items)) c.args.i t)) c.into_tree.ensures.tree)
