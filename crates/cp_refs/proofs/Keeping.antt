-- What is kept of an outcome gives what the outcome gives.
use Rattle.std.proofs.Common.{◌≡◌, ℕ, zero, suc, List, [], ◌∷◌, Vec, Global, map, refl, sym, ap, ◌∙◌, rules}
use Rattle.cp_tree.specs.Node.{Node, null, cap, struct, list, ptrs, structs, Nodes, no_nodes, node}
use Rattle.cp_tree.specs.NodeOf.{node_of, nodes_of}
use Rattle.cp_tree.specs.Seen.{node_at, pointee_of}
use Rattle.cp_tree.specs.declared.tree.Body.{Body, roll-Body, the_lemmas as body_lemmas}
use Rattle.cp_tree.specs.declared.tree.Tree.{Tree, the_lemmas}
use Rattle.cp_tree.specs.declared.tree.Tree.TheVariants as trees
use Rattle.cp_tree.proofs.Shapes.{node-Struct}
use Rattle.cp_refs.specs.At.{cap_in, node_along}
use Rattle.cp_refs.specs.Kept.{pointers_of, all_pointers_of, GiveSame}
use Rattle.cp_refs.specs.declared.cap.Cap.{Cap}
use Rattle.cp_refs.specs.declared.cap.Cap.TheVariants as caps

-- the trees of a row are kept one by one
rows : (ts : List Tree) → nodes_of (map (λ t. pointers_of (node_of t)) ts) ≡ all_pointers_of (nodes_of (map node_of ts))
rows [] = refl
rows (t ∷ ts) = ap (node (pointers_of (node_of t))) (rows ts)

node-made : (ws : Vec ℕ Global) (ts : Vec Tree Global) → node_of (trees.Struct (roll-Body (record { words = ws; ptrs = ts }))) ≡ struct ws.items (nodes_of (map node_of ts.items))
node-made ws ts = search (rules, the_lemmas, body_lemmas)

-- a struct is kept without its words
pub struct_kept : (b : Body) (ws : Vec ℕ Global) (ts : Vec Tree Global) (row : List Tree) → ws.items ≡ [] → row ≡ b.ptrs.items → map node_of ts.items ≡ map (λ t. pointers_of (node_of t)) row
    → node_of (trees.Struct (roll-Body (record { words = ws; ptrs = ts }))) ≡ pointers_of (node_of (trees.Struct b))
struct_kept b ws ts row none is all =
    node-made ws ts
    ∙ ap (λ w. struct w (nodes_of (map node_of ts.items))) none
    ∙ ap (λ l. struct [] (nodes_of l)) (all ∙ ap (map (λ t. pointers_of (node_of t))) is)
    ∙ ap (struct []) (rows b.ptrs.items)
    ∙ sym (ap pointers_of (node-Struct b))

at_pointers : (ts : Nodes) (i : ℕ) → node_at (all_pointers_of ts) i ≡ pointers_of (node_at ts i)
at_pointers no_nodes i = refl
at_pointers (node t ts) zero = refl
at_pointers (node t ts) (suc i) = at_pointers ts i

pointee : (t : Node) (i : ℕ) → pointee_of (pointers_of t) i ≡ pointers_of (pointee_of t i)
pointee null i = refl
pointee (cap k) i = refl
pointee (struct ws ts) i = at_pointers ts i
pointee (list es) i = refl
pointee (ptrs ts) i = refl
pointee (structs d n bs) i = refl

-- a path leads to the pointers of what it led to
along : (t : Node) (path : List ℕ) → node_along (pointers_of t) path ≡ pointers_of (node_along t path)
along t [] = refl
along t (field ∷ path) = ap (λ u. node_along u path) (pointee t field) ∙ along (pointee_of t field) path

same_cap : (table : List Cap) (t : Node) → cap_in table (pointers_of t) ≡ cap_in table t
same_cap table null = refl
same_cap table (cap i) = refl
same_cap table (struct ws ts) = refl
same_cap table (list es) = refl
same_cap table (ptrs ts) = refl
same_cap table (structs d n bs) = refl

-- a tree's pointers have its capabilities at each path
pub pointers_give : (table : List Cap) (t : Node) → GiveSame table (pointers_of t) t
pointers_give table t path = ap (cap_in table) (along t path) ∙ same_cap table (node_along t path)

-- a table without capabilities has none at any path of any tree
none_in : (t : Node) → cap_in [] t ≡ caps.None
none_in null = refl
none_in (cap i) = refl
none_in (struct ws ts) = refl
none_in (list es) = refl
none_in (ptrs ts) = refl
none_in (structs d n bs) = refl

pub none_give : (t u : Node) → GiveSame [] t u
none_give t u path = none_in (node_along t path) ∙ sym (none_in (node_along u path))
