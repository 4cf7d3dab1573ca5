-- What the pointers of a struct that is a constant stand for, and the elements of a list that is one.
use Rattle.std.proofs.Common.{◌≡◌, Bor, ℕ, zero, suc, ◌<◌, ◌≤◌, List, [], ◌∷◌, length, map, get_or, refl, ap, ◌∙◌, arith, rules}
use Rattle.cp_tree.specs.Node.{null, struct, ptrs, structs}
use Rattle.cp_tree.specs.NodeOf.{nodes_of, bodies_of}
use Rattle.cp_tree.specs.Seen.{node_at, pointee_of}
use Rattle.cp_fields.specs.Constants.{constant_of, constant_body_of}
use Rattle.cp_fields.specs.Items.{number_item, numbers_of, pointer_items, struct_items, items_of}
use Rattle.cp_fields.specs.Rows.{tree_item, body_item}
use Rattle.cp_fields.specs.declared.constant.Constant.{Constant, Ptrs, Structs}
use Rattle.cp_fields.specs.declared.constant.Constant.TheVariants as constants
use Rattle.cp_tree.specs.Lent.{elements_in}
use Rattle.cp_tree.specs.declared.lent.ListRef.{ListRef}
use Rattle.cp_fields.specs.declared.constant.ConstantBody.{ConstantBody, the_lemmas}

pub pointee-body : (b : ConstantBody) (i : ℕ) → pointee_of (struct (constant_body_of b).0 (constant_body_of b).1) i ≡ node_at (nodes_of (map constant_of b.ptrs.now)) i
pointee-body b i = search (rules, the_lemmas)

pub node_at-map : (ts : List Constant) (i : ℕ) (d : Constant) → i < length ts → node_at (nodes_of (map constant_of ts)) i ≡ constant_of (get_or ts i d)
node_at-map [] i d within = absurd (omega arith)
node_at-map (t ∷ ts) zero d within = refl
node_at-map (t ∷ ts) (suc i) d within = node_at-map ts i d (omega arith)

pub node_at-map-past : (ts : List Constant) (i : ℕ) → length ts ≤ i → node_at (nodes_of (map constant_of ts)) i ≡ null
node_at-map-past [] i past = refl
node_at-map-past (t ∷ ts) zero past = absurd (omega arith)
node_at-map-past (t ∷ ts) (suc i) past = node_at-map-past ts i (omega arith)

pub pointer_items-map : (ts : List Constant) → pointer_items (nodes_of (map constant_of ts)) ≡ map tree_item ts
pointer_items-map [] = refl
pointer_items-map (t ∷ ts) = ap (λ l. tree_item t ∷ l) (pointer_items-map ts)

pub struct_items-map : (bs : List ConstantBody) → struct_items (bodies_of (map constant_body_of bs)) ≡ map body_item bs
struct_items-map [] = refl
struct_items-map (b ∷ bs) = ap (λ l. body_item b ∷ l) (struct_items-map bs)

node-Ptrs : (v : Bor (List Constant)) → constant_of (Ptrs v) ≡ ptrs (nodes_of (map constant_of v.now))
node-Ptrs v = search (rules, the_lemmas)

node-Structs : (d k : ℕ) (v : Bor (List ConstantBody)) → constant_of (Structs d k v) ≡ structs d k (bodies_of (map constant_body_of v.now))
node-Structs d k v = search (rules, the_lemmas)

pub items-Ptrs : (v : Bor (List Constant)) → items_of (constant_of (Ptrs v)) ≡ map tree_item v.now
items-Ptrs v = ap items_of (node-Ptrs v) ∙ pointer_items-map v.now

pub items-Structs : (d k : ℕ) (v : Bor (List ConstantBody)) → items_of (constant_of (Structs d k v)) ≡ map body_item v.now
items-Structs d k v = ap items_of (node-Structs d k v) ∙ struct_items-map v.now

pub items-List : (l : ListRef) → items_of (constant_of (constants.List l)) ≡ map number_item (numbers_of (elements_in l))
items-List l = search (rules, the_lemmas)
