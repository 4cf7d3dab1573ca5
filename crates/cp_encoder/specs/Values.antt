-- What values are written as: the numbers of a struct in their places, over their defaults, and what its pointers stand for.
-- (Encoding specification: "Structs", "Lists", "Default Values".)
use Rattle.std.specs.Prelude.{ℕ, ◌%◌, ◌^◌, List, [], ◌∷◌, replicate, bit_xor}
use Rattle.cp_tree.specs.Node.{voids, Node, null, cap, struct, list, ptrs, structs, Nodes}
use Rattle.cp_tree.specs.NodeOf.{nodes_of, bodies_of}
use Rattle.cp_builder.specs.Numbers.{with_number}
use Rattle.cp_builder.specs.Drafts.{with_node, text_tree, bits_tree, bytes_tree, halves_tree, quads_tree, words_tree}
use Rattle.cp_encoder.specs.declared.value.Width.TheVariants as widths
use Rattle.cp_encoder.specs.declared.value.Width.{Width}
use Rattle.cp_encoder.specs.declared.value.Number.{Number}
use Rattle.cp_encoder.specs.declared.value.TextValue.{TextValue, fold-TextValue}
use Rattle.cp_encoder.specs.declared.value.TextValue.TheOpen.{TextValue-F, Fields-F, TextPointer-F}
use Rattle.cp_encoder.specs.declared.value.Fields.{Fields, fold-Fields}
use Rattle.cp_encoder.specs.declared.value.TextPointer.{TextPointer, fold-TextPointer}

-- how many bits a number has
abbrev pub bits_in : Width → ℕ
bits_in widths.Bit = 1
bits_in widths.Byte = 8
bits_in widths.TwoBytes = 16
bits_in widths.FourBytes = 32
bits_in widths.Word = 64

-- what a number is stored as: its bits, of which those are flipped that its default has
abbrev pub stored : Number → ℕ
stored n = bit_xor n.bits n.default % 2 ^ bits_in n.width

-- data words in which a number has been put
abbrev pub with_stored : List ℕ → Number → List ℕ
with_stored ws n = with_number ws (bits_in n.width) n.place (stored n)

-- data words in which numbers have been put, one after another
abbrev pub with_all_stored : List ℕ → List Number → List ℕ
with_all_stored ws [] = ws
with_all_stored ws (n ∷ ns) = with_all_stored (with_stored ws n) ns

-- a row of trees in which others have been put, each in its place, one after another
abbrev pub with_all_nodes : Nodes → List (ℕ × Node) → Nodes
with_all_nodes ts [] = ts
with_all_nodes ts (p ∷ ps) = with_all_nodes (with_node ts p.0 p.1) ps

-- one level, with each part already seen as its tree
abbrev pub value_step : TextValue-F Node (List ℕ × Nodes) (ℕ × Node) → Node
value_step TextValue-F.Null = null
value_step (TextValue-F.Cap i) = cap i
value_step (TextValue-F.Text bs) = text_tree bs.items
value_step (TextValue-F.Struct b) = struct b.0 b.1
value_step (TextValue-F.Voids n) = list (voids n)
value_step (TextValue-F.Bits items) = bits_tree items.items
value_step (TextValue-F.Bytes items) = bytes_tree items.items
value_step (TextValue-F.Halves items) = halves_tree items.items
value_step (TextValue-F.Quads items) = quads_tree items.items
value_step (TextValue-F.Words items) = words_tree items.items
value_step (TextValue-F.Pointers items) = ptrs (nodes_of items.items)
value_step (TextValue-F.Structs d n items) = structs d n (bodies_of items.items)

-- the words of a struct and its pointers: all as by default, but for those that are given
abbrev pub fields_step : Fields-F Node (List ℕ × Nodes) (ℕ × Node) → List ℕ × Nodes
fields_step f = (with_all_stored (replicate f.words 0) f.numbers.items, with_all_nodes (nodes_of (replicate f.pointers null)) f.values.items)

abbrev pub pointer_step : TextPointer-F Node (List ℕ × Nodes) (ℕ × Node) → ℕ × Node
pointer_step p = (p.place, p.value)

-- the tree of a value
abbrev pub value_node : TextValue → Node
value_node = fold-TextValue Node (List ℕ × Nodes) (ℕ × Node) value_step fields_step pointer_step

-- the words of a struct, and its pointers
abbrev pub fields_body : Fields → List ℕ × Nodes
fields_body = fold-Fields Node (List ℕ × Nodes) (ℕ × Node) value_step fields_step pointer_step

-- the place of a pointer, and what it stands for
abbrev pub placed : TextPointer → ℕ × Node
placed = fold-TextPointer Node (List ℕ × Nodes) (ℕ × Node) value_step fields_step pointer_step

-- the struct of the fields that are given
abbrev pub fields_node : Fields → Node
fields_node f = struct (fields_body f).0 (fields_body f).1
