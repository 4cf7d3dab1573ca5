-- The elements of a list, each seen as a struct, as a list that an older or newer schema wrote is read.
-- (Encoding specification: "Lists"; language: "Evolving Your Protocol".)
use Rattle.std.specs.Prelude.{ℕ, Bool, if◌then◌else◌, List, [], ◌∷◌, map, replicate}
use Rattle.cp_tree.specs.Node.{Elements, voids, bits, bytes, halves, quads, words, Node, struct, list, ptrs, structs, Nodes, no_nodes, node, Bodies, no_bodies, body}

-- a number as an element: a struct that has it in its one data word
abbrev pub number_item : ℕ → Node
number_item n = struct (n ∷ []) no_nodes

-- a pointer as an element: a struct that has it as its one pointer
abbrev pub pointer_item : Node → Node
pointer_item t = struct [] (node t no_nodes)

abbrev pub bit_number : Bool → ℕ
bit_number b = if b then 1 else 0

-- elements without pointers as numbers; a void is 0
abbrev pub numbers_of : Elements → List ℕ
numbers_of (voids n) = replicate n 0
numbers_of (bits bs) = map bit_number bs
numbers_of (bytes ns) = ns
numbers_of (halves ns) = ns
numbers_of (quads ns) = ns
numbers_of (words ns) = ns

abbrev pub pointer_items : Nodes → List Node
pointer_items no_nodes = []
pointer_items (node t ts) = pointer_item t ∷ pointer_items ts

abbrev pub struct_items : Bodies → List Node
struct_items no_bodies = []
struct_items (body ws ts bs) = struct ws ts ∷ struct_items bs

-- the elements of a list, in order; any other tree has none
abbrev pub items_of : Node → List Node
items_of (list es) = map number_item (numbers_of es)
items_of (ptrs ts) = pointer_items ts
items_of (structs d n bs) = struct_items bs
items_of other = []
