-- A tree without where it lies in memory.
use Rattle.std.specs.Prelude.{ℕ, suc, ◌+◌, ◌*◌, Bool, max, List, [], length}
use Rattle.cp_words.specs.Word.{words_for}
use Rattle.cp_words.specs.declared.pointer.ElementSize.{ElementSize}
use Rattle.cp_words.specs.declared.pointer.ElementSize.TheVariants as sizes

-- the elements of a list that holds no pointers
pub data Elements : Type 0 where
  voids : ℕ → Elements
  bits : List Bool → Elements
  bytes : List ℕ → Elements
  halves : List ℕ → Elements
  quads : List ℕ → Elements
  words : List ℕ → Elements

-- Null, a capability's index, a struct of data words and pointers, a list without pointers, a list of pointers, and a
-- composite list with the words and pointers of each element and the elements.
mutual
  pub data Node : Type 0 where
    null : Node
    cap : ℕ → Node
    struct : List ℕ → Nodes → Node
    list : Elements → Node
    ptrs : Nodes → Node
    structs : ℕ → ℕ → Bodies → Node

  pub data Nodes : Type 0 where
    no_nodes : Nodes
    node : Node → Nodes → Nodes

  pub data Bodies : Type 0 where
    no_bodies : Bodies
    body : List ℕ → Nodes → Bodies → Bodies

-- how large each element is
abbrev pub element_size : Elements → ElementSize
element_size (voids n) = sizes.Void
element_size (bits bs) = sizes.Bit
element_size (bytes ns) = sizes.Byte
element_size (halves ns) = sizes.TwoBytes
element_size (quads ns) = sizes.FourBytes
element_size (words ns) = sizes.EightBytes

-- how many elements there are
abbrev pub element_count : Elements → ℕ
element_count (voids n) = n
element_count (bits bs) = length bs
element_count (bytes ns) = length ns
element_count (halves ns) = length ns
element_count (quads ns) = length ns
element_count (words ns) = length ns

abbrev pub count : Nodes → ℕ
count no_nodes = 0
count (node t ts) = suc (count ts)

abbrev pub number_of : Bodies → ℕ
number_of no_bodies = 0
number_of (body ws ts bs) = suc (number_of bs)

-- How deep structs and lists nest. An element of a composite list is no level of its own.
abbrev mutual
  pub depth : Node → ℕ
  depth null = 0
  depth (cap i) = 0
  depth (struct ws ts) = suc (greatest_depth ts)
  depth (list es) = 1
  depth (ptrs ts) = suc (greatest_depth ts)
  depth (structs d n bs) = suc (deepest_body bs)

  pub greatest_depth : Nodes → ℕ
  greatest_depth no_nodes = 0
  greatest_depth (node t ts) = max (depth t) (greatest_depth ts)

  pub deepest_body : Bodies → ℕ
  deepest_body no_bodies = 0
  deepest_body (body ws ts bs) = max (greatest_depth ts) (deepest_body bs)

-- What it costs to go over a tree: the words of all bodies, one more for each body and each element of a composite
-- list, and one for a tag. A shared part costs once for each way to it.
abbrev mutual
  pub cost : Node → ℕ
  cost null = 0
  cost (cap i) = 0
  cost (struct ws ts) = 1 + length ws + count ts + total_cost ts
  cost (list es) = 1 + words_for (element_size es) (element_count es)
  cost (ptrs ts) = 1 + count ts + total_cost ts
  cost (structs d n bs) = 2 + number_of bs * (1 + d + n) + body_cost bs

  pub total_cost : Nodes → ℕ
  total_cost no_nodes = 0
  total_cost (node t ts) = cost t + total_cost ts

  pub body_cost : Bodies → ℕ
  body_cost no_bodies = 0
  body_cost (body ws ts bs) = total_cost ts + body_cost bs

-- A struct's data words. A null pointer stands for the struct with all parts zero and null.
abbrev pub data_of : Node → List ℕ
data_of (struct ws ts) = ws
data_of other = []

-- the pointers of a struct or of a list of pointers
abbrev pub row_of : Node → Nodes
row_of (struct ws ts) = ts
row_of (ptrs ts) = ts
row_of other = no_nodes

abbrev pub IsStruct : Node → Type 0
IsStruct (struct ws ts) = Unit {0}
IsStruct other = ⊥
