-- What a `Tree` of the program stands for.
use Rattle.std.specs.Prelude.{ℕ, List, [], ◌∷◌}
use Rattle.cp_tree.specs.Node.{voids, bits, bytes, halves, quads, words, Node, null, cap, struct, list, ptrs, structs, Nodes, no_nodes, node, Bodies, no_bodies, body}
use Rattle.cp_tree.specs.declared.tree.Tree.{Tree, fold-Tree}
use Rattle.cp_tree.specs.declared.tree.Tree.TheOpen.{Tree-F, Body-F}
use Rattle.cp_tree.specs.declared.tree.Body.{Body, fold-Body}

abbrev pub nodes_of : List Node → Nodes
nodes_of [] = no_nodes
nodes_of (t ∷ ts) = node t (nodes_of ts)

abbrev pub bodies_of : List (List ℕ × Nodes) → Bodies
bodies_of [] = no_bodies
bodies_of (b ∷ bs) = body b.0 b.1 (bodies_of bs)

-- one level, with each child already seen as its node
abbrev pub tree_step : Tree-F Node (List ℕ × Nodes) → Node
tree_step Tree-F.Null = null
tree_step (Tree-F.Cap i) = cap i
tree_step (Tree-F.Struct b) = struct b.0 b.1
tree_step (Tree-F.Voids n) = list (voids n)
tree_step (Tree-F.Bits items) = list (bits items.items)
tree_step (Tree-F.Bytes items) = list (bytes items.items)
tree_step (Tree-F.Halves items) = list (halves items.items)
tree_step (Tree-F.Quads items) = list (quads items.items)
tree_step (Tree-F.Words items) = list (words items.items)
tree_step (Tree-F.Ptrs items) = ptrs (nodes_of items.items)
tree_step (Tree-F.Structs d n items) = structs d n (bodies_of items.items)

abbrev pub body_step : Body-F Node (List ℕ × Nodes) → List ℕ × Nodes
body_step b = (b.words.items, nodes_of b.ptrs.items)

abbrev pub node_of : Tree → Node
node_of = fold-Tree Node (List ℕ × Nodes) tree_step body_step

-- the words of a struct, and its pointers
abbrev pub body_of : Body → List ℕ × Nodes
body_of = fold-Body Node (List ℕ × Nodes) tree_step body_step

-- the struct of a body
abbrev pub struct_of : Body → Node
struct_of b = struct (body_of b).0 (body_of b).1
