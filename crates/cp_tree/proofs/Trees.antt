-- What the parts of a program's trees stand for.
use Rattle.std.proofs.Common.{◌≡◌, ℕ, Vec, Global, suc, List, [], ◌∷◌, length, map, Bool, refl, ap, ◌∙◌, rules}
use Rattle.std.proofs.lemmas.List.{length-map}
use Rattle.cp_tree.specs.Node.{bits, Node, null, cap, list, ptrs, structs, count, number_of, Nodes}
use Rattle.cp_tree.specs.NodeOf.{node_of, body_of, nodes_of, bodies_of}
use Rattle.cp_tree.specs.declared.tree.Body.{Body, the_lemmas}
use Rattle.cp_tree.specs.declared.tree.Tree.{Tree, Bits, Ptrs, Structs}
use Rattle.cp_tree.specs.declared.tree.Tree.TheVariants as trees

pub count-nodes : (ts : List Node) → count (nodes_of ts) ≡ length ts
count-nodes [] = refl
count-nodes (t ∷ ts) = ap suc (count-nodes ts)

pub number-bodies : (bs : List (List ℕ × Nodes)) → number_of (bodies_of bs) ≡ length bs
number-bodies [] = refl
number-bodies (b ∷ bs) = ap suc (number-bodies bs)

pub body_of-is : (b : Body) → body_of b ≡ (b.words.items, nodes_of (map node_of b.ptrs.items))
body_of-is b = search (rules, the_lemmas)

pub node-Null : node_of trees.Null ≡ null
node-Null = search (rules, the_lemmas)

pub node-Cap : (i : ℕ) → node_of (trees.Cap i) ≡ cap i
node-Cap i = search (rules, the_lemmas)

pub node-Structs : (d k : ℕ) (v : Vec Body Global) → node_of (Structs d k v) ≡ structs d k (bodies_of (map body_of v.items))
node-Structs d k v = search (rules, the_lemmas)

pub node-Ptrs : (v : Vec Tree Global) → node_of (Ptrs v) ≡ ptrs (nodes_of (map node_of v.items))
node-Ptrs v = search (rules, the_lemmas)

pub node-Bits : (v : Vec Bool Global) → node_of (Bits v) ≡ list (bits v.items)
node-Bits v = search (rules, the_lemmas)

pub number_in : {X : Type 0} (f : X → List ℕ × Nodes) (xs : List X) → number_of (bodies_of (map f xs)) ≡ length xs
number_in f xs = number-bodies (map f xs) ∙ length-map xs f

pub count_in : {X : Type 0} (f : X → Node) (xs : List X) → count (nodes_of (map f xs)) ≡ length xs
count_in f xs = count-nodes (map f xs) ∙ length-map xs f
