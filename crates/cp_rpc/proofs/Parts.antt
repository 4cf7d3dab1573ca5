-- Parts of owned trees.
use Rattle.std.proofs.Common.{◌≡◌, ℕ, zero, suc, ◌<◌, List, [], ◌∷◌, Vec, Global, length, map, slice_index_or, refl, sym, ap, ◌∙◌, arith, rules}
use Rattle.cp_tree.specs.Node.{Node, null, cap, struct, list, ptrs, structs, Nodes, no_nodes, node, Bodies, no_bodies, body, number_of}
use Rattle.cp_tree.specs.Seen.{pointee_of, node_at}
use Rattle.cp_tree.specs.Shaped.{Shaped, EachShaped, EachEven, HasSizes}
use Rattle.cp_tree.specs.NodeOf.{node_of, body_of, bodies_of}
use Rattle.cp_tree.specs.declared.tree.Tree.{Structs}
use Rattle.cp_tree.specs.declared.tree.Body.{Body, the_lemmas}
use Rattle.cp_messages.specs.Fields.{items_of, structs_in}
use Rattle.cp_rpc.specs.Looked.{look_of}
use Rattle.cp_rpc.specs.OwnedNode.{body_node}
use Rattle.cp_rpc.specs.declared.source.SourceKind.TheVariants as looks

node-Structs : (d n : ℕ) (v : Vec Body Global) → node_of (Structs d n v) ≡ structs d n (bodies_of (map body_of v.items))
node-Structs d n v = search (rules, the_lemmas)

structs-map : (bs : List Body) → structs_in (bodies_of (map body_of bs)) ≡ map body_node bs
structs-map [] = refl
structs-map (b ∷ bs) = ap (λ l. body_node b ∷ l) (structs-map bs)

pub items-Structs : (d n : ℕ) (v : Vec Body Global) → items_of (node_of (Structs d n v)) ≡ map body_node v.items
items-Structs d n v = ap items_of (node-Structs d n v) ∙ structs-map v.items

count-map : (bs : List Body) → number_of (bodies_of (map body_of bs)) ≡ length bs
count-map [] = refl
count-map (b ∷ bs) = ap suc (count-map bs)

pub source_kind-Structs : (d n : ℕ) (v : Vec Body Global) → look_of (node_of (Structs d n v)) ≡ looks.Items (length v.items)
source_kind-Structs d n v = ap look_of (node-Structs d n v) ∙ ap looks.Items (count-map v.items)

shaped_at : (ts : Nodes) (i : ℕ) → EachShaped ts → Shaped (node_at ts i)
shaped_at no_nodes i s = tt
shaped_at (node t ts) zero s = s.0
shaped_at (node t ts) (suc i) s = shaped_at ts i s.1

-- what hangs on a pointer of a shaped tree is shaped
pub shaped_pointee : (t : Node) (i : ℕ) → Shaped t → Shaped (pointee_of t i)
shaped_pointee null i s = tt
shaped_pointee (cap k) i s = tt
shaped_pointee (struct ws ts) i s = shaped_at ts i s.2
shaped_pointee (list es) i s = tt
shaped_pointee (ptrs ts) i s = tt
shaped_pointee (structs d n bs) i s = tt

shaped_in : (d n : ℕ) (bs : Bodies) (i : ℕ) → HasSizes d n → EachEven d n bs → Shaped (slice_index_or (structs_in bs) i null)
shaped_in d n no_bodies i sizes s = tt
shaped_in d n (body ws ts bs) zero sizes s = (rw (s.0, s.1) sizes, s.2, s.3)
shaped_in d n (body ws ts bs) (suc i) sizes s = shaped_in d n bs i sizes s.4

-- an element of a shaped composite list is shaped
pub shaped_item : (t : Node) (i : ℕ) → Shaped t → Shaped (slice_index_or (items_of t) i null)
shaped_item null i s = tt
shaped_item (cap k) i s = tt
shaped_item (struct ws ts) i s = tt
shaped_item (list es) i s = tt
shaped_item (ptrs ts) i s = tt
shaped_item (structs d n bs) i s = shaped_in d n bs i s.0 s.3

item_in : (xs : List Body) (i : ℕ) (d : Body) → i < length xs → slice_index_or (map body_node xs) i null ≡ body_node (slice_index_or xs i d)
item_in [] i d within = absurd (omega arith)
item_in (x ∷ xs) zero d within = refl
item_in (x ∷ xs) (suc i) d within = item_in xs i d (omega arith)

length-nodes : (xs : List Body) → length (map body_node xs) ≡ length xs
length-nodes [] = refl
length-nodes (x ∷ xs) = ap suc (length-nodes xs)

-- the tree of an element
pub item_at : (xs : List Body) (items : List Node) (i : ℕ) (d : Body) → map body_node xs ≡ items → i < length items → slice_index_or items i null ≡ body_node (slice_index_or xs i d)
item_at xs items i d same within =
    let inside : i < length xs = omega (arith, within, ap (λ (l : List Node). length l) same, length-nodes xs) in
    ap (λ (l : List Node). slice_index_or l i null) (sym same) ∙ item_in xs i d inside
