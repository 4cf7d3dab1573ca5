-- Rows of trees, of which one is replaced.
use Rattle.std.proofs.Common.{◌≡◌, ◌<◌, ◌^◌, ◌+◌, ℕ, get_or, Vec, Global, length, zero, suc, List, [], ◌∷◌, ◌++◌, map, set, replicate, refl, ap, subst, sym, ◌∙◌}
use Rattle.std.proofs.lemmas.List.{append_assoc, map-set, replicate-append-replicate}
use Rattle.cp_tree.specs.Node.{Node, null, Nodes, no_nodes, node}
use Rattle.cp_tree.specs.NodeOf.{node_of, nodes_of}
use Rattle.cp_tree.specs.Seen.{node_at}
use Rattle.cp_tree.specs.Shaped.{Shaped, EachShaped}
use Rattle.cp_tree.specs.declared.tree.Tree.{Tree, Ptrs}
use Rattle.cp_tree.proofs.Trees.{node-Ptrs, count_in}
use Rattle.cp_builder.specs.Drafts.{with_node}

set_nodes : (ts : List Node) (i : ℕ) (t : Node) → nodes_of (set ts i t) ≡ with_node (nodes_of ts) i t
set_nodes [] i t = refl
set_nodes (old ∷ ts) zero t = refl
set_nodes (old ∷ ts) (suc i) t = ap (node old) (set_nodes ts i t)

pub set_trees : (ts : List Tree) (i : ℕ) (t : Tree) → nodes_of (map node_of (set ts i t)) ≡ with_node (nodes_of (map node_of ts)) i (node_of t)
set_trees ts i t = ap nodes_of (map-set node_of ts i t) ∙ set_nodes (map node_of ts) i (node_of t)

pub with_shaped : (ts : Nodes) (i : ℕ) (t : Node) → EachShaped ts → Shaped t → EachShaped (with_node ts i t)
with_shaped no_nodes i t each one = each
with_shaped (node old ts) zero t each one = (one, each.1)
with_shaped (node old ts) (suc i) t each one = (each.0, with_shaped ts i t each.1 one)

pub set_shaped : (ts : List Tree) (i : ℕ) (t : Tree) → EachShaped (nodes_of (map node_of ts)) → Shaped (node_of t) → EachShaped (nodes_of (map node_of (set ts i t)))
set_shaped ts i t each one = subst EachShaped (sym (set_trees ts i t)) (with_shaped (nodes_of (map node_of ts)) i (node_of t) each one)

pub nulls_shaped : (n : ℕ) → EachShaped (nodes_of (replicate n null))
nulls_shaped zero = tt
nulls_shaped (suc n) = (tt, nulls_shaped n)

pub shaped_last : (ts : List Tree) (t : Tree) → EachShaped (nodes_of (map node_of ts)) → Shaped (node_of t) → EachShaped (nodes_of (map node_of (ts ++ t ∷ [])))
shaped_last [] t each one = (one, tt)
shaped_last (old ∷ ts) t each one = (each.0, shaped_last ts t each.1 one)

pub map_last : (ts : List Tree) (t : Tree) → map node_of (ts ++ t ∷ []) ≡ map node_of ts ++ node_of t ∷ []
map_last [] t = refl
map_last (old ∷ ts) t = ap (λ (ns : List Node). node_of old ∷ ns) (map_last ts t)

pub row_shaped : (v : Vec Tree Global) → length v.items < 2 ^ 29 → EachShaped (nodes_of (map node_of v.items)) → Shaped (node_of (Ptrs v))
row_shaped v short each = subst (λ (t : Node). Shaped t) (sym (node-Ptrs v)) (subst (λ (n : ℕ). n < 2 ^ 29) (sym (count_in node_of v.items)) short, each)

-- one more null tree
pub null_more : (front : List Node) (old new : List Tree) (t : Tree) (n : ℕ) → new ≡ old ++ t ∷ [] → node_of t ≡ null → map node_of old ≡ front ++ replicate n null
    → map node_of new ≡ front ++ replicate (n + 1) null
null_more front old new t n grown is so_far =
    rw (grown, map_last old t, is, so_far, ← replicate-append-replicate n 1 null) (append_assoc front (replicate n null) (null ∷ []))

-- a tree of a row, by its place in the list
pub node_in : (ts : List Node) (i : ℕ) → node_at (nodes_of ts) i ≡ get_or ts i null
node_in [] i = refl
node_in (t ∷ ts) zero = refl
node_in (t ∷ ts) (suc i) = node_in ts i
