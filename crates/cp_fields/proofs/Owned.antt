-- The elements of lists that are owned.
use Rattle.std.proofs.Common.{◌≡◌, ℕ, suc, ◌+◌, ◌<◌, Bool, List, [], ◌∷◌, ◌++◌, Vec, Global, length, map, take, get_or, replicate, refl, sym, ap, ◌∙◌, arith, rules}
use Rattle.std.proofs.Math.Seq.{take-suc}
use Rattle.std.proofs.lemmas.List.{length-map, get_or-map}
use Rattle.std.proofs.lemmas.Simd.{map-map}
use Rattle.cp_tree.specs.Node.{Node, Nodes, null, struct}
use Rattle.cp_tree.specs.NodeOf.{node_of, nodes_of, body_of, bodies_of}
use Rattle.cp_tree.specs.declared.tree.Tree.{Tree, Ptrs, Structs}
use Rattle.cp_tree.specs.declared.tree.Tree.TheVariants as trees
use Rattle.cp_tree.specs.declared.tree.Body.{Body, the_lemmas}
use Rattle.cp_tree.proofs.Trees.{node-Ptrs, node-Structs}
use Rattle.cp_fields.specs.Items.{number_item, pointer_item, bit_number, pointer_items, struct_items, items_of}

abbrev pub bit_item : Bool → Node
bit_item b = number_item (bit_number b)

abbrev pub tree_item : Tree → Node
tree_item t = pointer_item (node_of t)

abbrev pub body_item : Body → Node
body_item b = struct (body_of b).0 (body_of b).1

pub items-Voids : (n : ℕ) → items_of (node_of (trees.Voids n)) ≡ map number_item (replicate n 0)
items-Voids n = search (rules, the_lemmas)

pub items-Bits : (v : Vec Bool Global) → items_of (node_of (trees.Bits v)) ≡ map bit_item v.items
items-Bits v =
    let is : items_of (node_of (trees.Bits v)) ≡ map number_item (map bit_number v.items) = search (rules, the_lemmas) in
    is ∙ map-map number_item bit_number v.items

pub items-Bytes : (v : Vec ℕ Global) → items_of (node_of (trees.Bytes v)) ≡ map number_item v.items
items-Bytes v = search (rules, the_lemmas)

pub items-Halves : (v : Vec ℕ Global) → items_of (node_of (trees.Halves v)) ≡ map number_item v.items
items-Halves v = search (rules, the_lemmas)

pub items-Quads : (v : Vec ℕ Global) → items_of (node_of (trees.Quads v)) ≡ map number_item v.items
items-Quads v = search (rules, the_lemmas)

pub items-Words : (v : Vec ℕ Global) → items_of (node_of (trees.Words v)) ≡ map number_item v.items
items-Words v = search (rules, the_lemmas)

pointer_items-map : (ts : List Tree) → pointer_items (nodes_of (map node_of ts)) ≡ map tree_item ts
pointer_items-map [] = refl
pointer_items-map (t ∷ ts) = ap (λ l. tree_item t ∷ l) (pointer_items-map ts)

struct_items-map : (bs : List Body) → struct_items (bodies_of (map body_of bs)) ≡ map body_item bs
struct_items-map [] = refl
struct_items-map (b ∷ bs) = ap (λ l. body_item b ∷ l) (struct_items-map bs)

pub items-Ptrs : (v : Vec Tree Global) → items_of (node_of (Ptrs v)) ≡ map tree_item v.items
items-Ptrs v = ap items_of (node-Ptrs v) ∙ pointer_items-map v.items

pub items-Structs : (d k : ℕ) (v : Vec Body Global) → items_of (node_of (Structs d k v)) ≡ map body_item v.items
items-Structs d k v = ap items_of (node-Structs d k v) ∙ struct_items-map v.items

-- trees with one more after them
pub map_last : (ts : List Tree) (t : Tree) → map node_of (ts ++ t ∷ []) ≡ map node_of ts ++ node_of t ∷ []
map_last [] t = refl
map_last (old ∷ ts) t = ap (λ (ns : List Node). node_of old ∷ ns) (map_last ts t)

-- what is within the elements is within those that they come from
pub within : {X : Type 0} (f : X → Node) (xs : List X) (items : List Node) (i : ℕ) → items ≡ map f xs → i < length items → i < length xs
within f xs items i same h = omega (arith, ap (λ (l : List Node). length l) same, length-map xs f)

-- an element, by the one that it comes from
pub read_at : {X : Type 0} (f : X → Node) (xs : List X) (items : List Node) (i : ℕ) (x : X) → items ≡ map f xs → i < length items → x ≡ get_or xs i x → f x ≡ get_or items i null
read_at f xs items i x same h e =
    ap f e ∙ sym (get_or-map f xs i x null (within f xs items i same h)) ∙ ap (λ (l : List Node). get_or l i null) (sym same)

node_struct : (b : Body) → node_of (trees.Struct b) ≡ struct b.words.items (nodes_of (map node_of b.ptrs.items))
node_struct b = search (rules, the_lemmas)

-- a struct of words and of trees that are known
pub struct_of : (b : Body) (ws : List ℕ) (ts : Nodes) → b.words.items ≡ ws → nodes_of (map node_of b.ptrs.items) ≡ ts → node_of (trees.Struct b) ≡ struct ws ts
struct_of b ws ts words pointers =
    node_struct b ∙ ap (λ (l : List ℕ). struct l (nodes_of (map node_of b.ptrs.items))) words ∙ ap (λ (l : Nodes). struct ws l) pointers

-- one more tree was copied
pub copied_one : (ts found : List Tree) (i : ℕ) (x t : Tree) → map node_of found ≡ take i (map node_of ts) → i < length ts → x ≡ get_or ts i x → node_of t ≡ node_of x
    → map node_of (found ++ t ∷ []) ≡ take (i + 1) (map node_of ts)
copied_one ts found i x t before there is same =
    let inside : i < length (map node_of ts) = omega (arith, length-map ts node_of, there) in
    let next : suc i ≡ i + 1 = omega arith in
    map_last found t
    ∙ ap (λ (ns : List Node). ns ++ node_of t ∷ []) before
    ∙ ap (λ (n : Node). take i (map node_of ts) ++ n ∷ []) (same ∙ read_at node_of ts (map node_of ts) i x refl inside is)
    ∙ sym (take-suc (map node_of ts) i null inside)
    ∙ ap (λ (k : ℕ). take k (map node_of ts)) next

-- the number of elements, by those that they come from
pub counted : {X : Type 0} (f : X → Node) (xs : List X) (items : List Node) → items ≡ map f xs → length xs ≡ length items
counted f xs items same = sym (ap (λ (l : List Node). length l) same ∙ length-map xs f)
