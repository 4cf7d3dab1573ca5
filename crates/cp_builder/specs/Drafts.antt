-- Structs that are written by the places of their fields, and what fields are written as.
-- (Encoding specification: "Structs", "Lists", "Default Values".)
use Rattle.std.specs.Prelude.{ℕ, zero, suc, ◌-◌, ◌+◌, ◌*◌, ◌^◌, ◌<◌, Bool, List, [], ◌∷◌, ◌++◌, length, take, replicate}
use Rattle.cp_tree.specs.Node.{bits, bytes, halves, quads, words, Node, null, cap, struct, list, structs, Nodes, no_nodes, node, Bodies, no_bodies, body, count, number_of}
use Rattle.cp_tree.specs.NodeOf.{nodes_of}
use Rattle.cp_builder.specs.Numbers.{with_number}

-- a struct of d data words and n pointers whose fields are all as by default
abbrev pub blank : ℕ → ℕ → Node
blank d n = struct (replicate d 0) (nodes_of (replicate n null))

-- one row of trees after another
abbrev pub nodes_then : Nodes → Nodes → Nodes
nodes_then no_nodes us = us
nodes_then (node t ts) us = node t (nodes_then ts us)

-- A struct with at least d data words and n pointers. Those that it lacks are zero and null; none is taken away.
abbrev pub widened : ℕ → ℕ → Node → Node
widened d n (struct ws ts) = struct (ws ++ replicate (d - length ws) 0) (nodes_then ts (nodes_of (replicate (n - count ts) null)))
widened d n other = other

-- a struct whose number i of w bits is this, and else as it was
abbrev pub with_uint : Node → ℕ → ℕ → ℕ → Node
with_uint (struct ws ts) w i n = struct (with_number ws w i n) ts
with_uint other w i n = other

-- a row of trees whose tree i is this
abbrev pub with_node : Nodes → ℕ → Node → Nodes
with_node no_nodes i t = no_nodes
with_node (node old ts) zero t = node t ts
with_node (node old ts) (suc i) t = node old (with_node ts i t)

-- a struct whose pointer i stands for this, and else as it was
abbrev pub with_pointer : Node → ℕ → Node → Node
with_pointer (struct ws ts) i t = struct ws (with_node ts i t)
with_pointer other i t = other

-- a text is the list of its bytes and a zero byte
abbrev pub text_tree : List ℕ → Node
text_tree bs = list (bytes (bs ++ 0 ∷ []))

-- lists without pointers
abbrev pub bits_tree : List Bool → Node
bits_tree bs = list (bits bs)

abbrev pub bytes_tree : List ℕ → Node
bytes_tree ns = list (bytes ns)

abbrev pub halves_tree : List ℕ → Node
halves_tree ns = list (halves ns)

abbrev pub quads_tree : List ℕ → Node
quads_tree ns = list (quads ns)

abbrev pub words_tree : List ℕ → Node
words_tree ns = list (words ns)

-- a capability, by its index in the table that goes with the message
abbrev pub cap_tree : ℕ → Node
cap_tree i = cap i

-- the empty list of structs of d data words and n pointers
abbrev pub blank_list : ℕ → ℕ → Node
blank_list d n = structs d n no_bodies

-- structs with one more after them
abbrev pub bodies_then : Bodies → List ℕ → Nodes → Bodies
bodies_then no_bodies ws ts = body ws ts no_bodies
bodies_then (body vs us bs) ws ts = body vs us (bodies_then bs ws ts)

-- the first n of a row of trees
abbrev pub first_nodes : ℕ → Nodes → Nodes
first_nodes zero ts = no_nodes
first_nodes (suc n) no_nodes = no_nodes
first_nodes (suc n) (node t ts) = node t (first_nodes n ts)

-- a composite list with one more struct at its end: as many words and pointers of it as the list's structs have
abbrev pub with_last : Node → Node → Node
with_last (structs d n bs) (struct ws ts) = structs d n (bodies_then bs (take d ws) (first_nodes n ts))
with_last t item = t

-- the structs of a composite list
abbrev pub item_count : Node → ℕ
item_count (structs d n bs) = number_of bs
item_count other = 0

-- A message can hold the list with one more struct: it has fewer than 2 ^ 30 structs, which take fewer than 2 ^ 29 words.
abbrev pub HoldsOneMore : Node → ℕ → Type 0
HoldsOneMore t size = (item_count t + 1 < 2 ^ 30) × ((item_count t + 1) * size < 2 ^ 29)
