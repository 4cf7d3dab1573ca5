use Rattle.std.proofs.Common.{ℕ, List, map, subst, sym}
use Rattle.cp_tree.specs.Node.{Node}
use Rattle.cp_tree.specs.NodeOf.{node_of}
use Rattle.cp_tree.specs.Shaped.{AllFit, HasSizes, Shaped}
use Rattle.cp_tree.proofs.Trees.{count_in}
use Rattle.std.proofs.Common.{length}
use Rattle.cp_builder.proofs.structure.StructBuilder.into_body.Goals as goal

pub returns-clause-shaped : goal.returns-clause-shaped
returns-clause-shaped g c =
    subst (λ (t : Node). Shaped t) c.self.view_is (
      subst (λ (n : ℕ). HasSizes (length c.self.inside.words.items) n) (sym (count_in node_of c.self.inside.pointers.items)) c.self.invariant.0,
      subst (λ (ws : List ℕ). AllFit 64 ws) c.deref.ensures.value c.fit.ensures,
      c.self.invariant.3,
    )
