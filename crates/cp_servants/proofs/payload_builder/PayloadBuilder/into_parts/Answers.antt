use Rattle.std.proofs.Common.{ℕ, List, ◌∙◌, map, subst}
use Rattle.cp_tree.specs.NodeOf.{node_of}
use Rattle.cp_tree.specs.Shaped.{AllFit}
use Rattle.cp_tree.proofs.Trees.{count-nodes}
use Rattle.cp_servants.proofs.ContentTrees.{node-Struct}
use Rattle.cp_servants.proofs.payload_builder.PayloadBuilder.into_parts.Goals as goal

pub from_shaped-requires : goal.from_shaped-requires
from_shaped-requires c = rw (node-Struct c.self.inside.words c.self.inside.pointers) (
  (c.self.invariant.few_words, rw (count-nodes (map node_of c.self.inside.pointers.items)) c.self.invariant.few_pointers),
  subst (λ (ws : List ℕ). AllFit 64 ws) c.deref.ensures.value c.fit.ensures,
  c.self.invariant.shaped,
)

pub returns-clause-content : goal.returns-clause-content
returns-clause-content c = rw (← c.self.view_is) (c.from_shaped.ensures ∙ node-Struct c.self.inside.words c.self.inside.pointers)
