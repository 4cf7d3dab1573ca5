-- What a view shows of its tree.
use Rattle.std.specs.Prelude.{◌≡◌, ℕ, zero, suc, List, [], length}
use Rattle.cp_words.specs.Word.{words_for}
use Rattle.cp_words.specs.declared.pointer.ElementSize.TheVariants as sizes
use Rattle.cp_tree.specs.Node.{voids, element_size, element_count, Node, null, cap, struct, list, ptrs, structs, Nodes, no_nodes, node, Bodies, no_bodies, body, count, number_of}
use Rattle.cp_tree.specs.Elements.{elements_of}
use Rattle.cp_tree.specs.declared.shape.Shape.{Shape}
use Rattle.cp_tree.specs.declared.shape.Shape.TheVariants as shapes

-- a tree's kind and sizes
abbrev pub shape_of : Node → Shape
shape_of null = shapes.Null
shape_of (cap i) = shapes.Cap i
shape_of (struct ws ts) = shapes.Struct (length ws) (count ts)
shape_of (list es) = shapes.List (element_size es) (element_count es)
shape_of (ptrs ts) = shapes.List sizes.Pointer (count ts)
shape_of (structs d n bs) = shapes.Structs d n (number_of bs)

-- tree i of a row, and null past its end
abbrev pub node_at : Nodes → ℕ → Node
node_at no_nodes i = null
node_at (node t ts) zero = t
node_at (node t ts) (suc i) = node_at ts i

-- element i of a composite list, a struct, and null past its end
abbrev pub body_at : Bodies → ℕ → Node
body_at no_bodies i = null
body_at (body ws ts bs) zero = struct ws ts
body_at (body ws ts bs) (suc i) = body_at bs i

-- part i of a tree: a struct's pointer, or an element of a list of pointers or a composite list; null past the end
abbrev pub part_of : Node → ℕ → Node
part_of (struct ws ts) i = node_at ts i
part_of (ptrs ts) i = node_at ts i
part_of (structs d n bs) i = body_at bs i
part_of other i = null

-- pointer i of a struct, and null past its end; no other tree has one
abbrev pub pointee_of : Node → ℕ → Node
pointee_of (struct ws ts) i = node_at ts i
pointee_of other i = null

-- The words are a struct's data words, or those that hold a list's elements of one bit to eight bytes (bits past the
-- last element aside). Of any other tree there are none.
abbrev pub AreWordsOf : List ℕ → Node → Type 0
AreWordsOf lent (struct ws ts) = lent ≡ ws
AreWordsOf lent (list (voids n)) = lent ≡ []
AreWordsOf lent (list es) = (length lent ≡ words_for (element_size es) (element_count es)) × (es ≡ elements_of lent (element_size es) (element_count es))
AreWordsOf lent other = lent ≡ []
