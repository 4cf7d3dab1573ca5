-- The tree that a `Draft` of the program stands for.
use Rattle.std.specs.Prelude.{ℕ, List}
use Rattle.cp_tree.specs.Node.{Node, struct, ptrs, structs, Nodes}
use Rattle.cp_tree.specs.NodeOf.{nodes_of, bodies_of, node_of}
use Rattle.cp_tree.specs.declared.draft.Draft.{Draft, fold-Draft}
use Rattle.cp_tree.specs.declared.draft.Draft.TheOpen.{Draft-F, DraftBody-F}
use Rattle.cp_tree.specs.declared.draft.DraftBody.{DraftBody, fold-DraftBody}

-- one level, with each child already seen as its node
abbrev pub draft_step : Draft-F Node (List ℕ × Nodes) → Node
draft_step (Draft-F.Own t) = node_of t
draft_step (Draft-F.Lent t) = node_of t.now
draft_step (Draft-F.Struct b) = struct b.0 b.1
draft_step (Draft-F.Ptrs items) = ptrs (nodes_of items.items)
draft_step (Draft-F.Structs d n items) = structs d n (bodies_of items.items)

abbrev pub draft_body_step : DraftBody-F Node (List ℕ × Nodes) → List ℕ × Nodes
draft_body_step b = (b.words.items, nodes_of b.ptrs.items)

abbrev pub draft_of : Draft → Node
draft_of = fold-Draft Node (List ℕ × Nodes) draft_step draft_body_step

-- the words of a struct, and its pointers
abbrev pub draft_body_of : DraftBody → List ℕ × Nodes
draft_body_of = fold-DraftBody Node (List ℕ × Nodes) draft_step draft_body_step
