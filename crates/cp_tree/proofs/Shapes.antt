-- Trees that a message can hold.
use Rattle.std.proofs.Common.{◌≡◌, ℕ, Vec, Global, length, map, sym, ◌∙◌, Bool, true, false, Decides, rules}
use Rattle.std.proofs.lemmas.List.{length-map}
use Rattle.cp_tree.specs.Node.{voids, bytes, halves, quads, words, struct, list, count, number_of}
use Rattle.cp_tree.specs.NodeOf.{node_of, body_of, nodes_of, bodies_of}
use Rattle.cp_tree.specs.declared.tree.Body.{Body, the_lemmas}
use Rattle.cp_tree.specs.declared.tree.Tree.{Tree, Struct, Voids, Bytes, Halves, Quads, Words}
use Rattle.cp_tree.proofs.Trees.{count-nodes, number-bodies}

pub node-Struct : (b : Body) → node_of (Struct b) ≡ struct b.words.items (nodes_of (map node_of b.ptrs.items))
node-Struct b = search (rules, the_lemmas)

pub node-Voids : (n : ℕ) → node_of (Voids n) ≡ list (voids n)
node-Voids n = search (rules, the_lemmas)

pub node-Bytes : (v : Vec ℕ Global) → node_of (Bytes v) ≡ list (bytes v.items)
node-Bytes v = search (rules, the_lemmas)

pub node-Halves : (v : Vec ℕ Global) → node_of (Halves v) ≡ list (halves v.items)
node-Halves v = search (rules, the_lemmas)

pub node-Quads : (v : Vec ℕ Global) → node_of (Quads v) ≡ list (quads v.items)
node-Quads v = search (rules, the_lemmas)

pub node-Words : (v : Vec ℕ Global) → node_of (Words v) ≡ list (words v.items)
node-Words v = search (rules, the_lemmas)

-- how many trees a row has, and how many structs a composite list
pub count-row : (v : Vec Tree Global) → count (nodes_of (map node_of v.items)) ≡ length v.items
count-row v = count-nodes (map node_of v.items) ∙ length-map v.items node_of

pub number-row : (v : Vec Body Global) → number_of (bodies_of (map body_of v.items)) ≡ length v.items
number-row v = number-bodies (map body_of v.items) ∙ length-map v.items body_of

-- a second test decides both where the first holds
pub and_then : {P Q R : Type 0} (a b : Bool) → a ≡ true → Decides a P → Decides b Q → (P → Q → R) → (R → Q) → Decides b R
and_then a b holds first second make take = (λ e. make (first.0 holds) (second.0 e), λ r. second.1 (take r))

-- and the first alone decides where it doesn't
pub and_not : {P R : Type 0} (a : Bool) → a ≡ false → Decides a P → (R → P) → Decides a R
and_not a fails first take = (λ e. let never : true ≡ false = sym e ∙ fails in cc, λ r. first.1 (take r))
