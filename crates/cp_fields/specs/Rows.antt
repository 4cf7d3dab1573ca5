-- The elements of lists that are looked at, in a message or owned.
use Rattle.std.specs.Prelude.{◌≡◌, ℕ, ◌<◌, ◌≤◌, ◌^◌, map, replicate, length}
use Rattle.cp_tree.specs.Elements.{numbers}
use Rattle.cp_tree.specs.Node.{Node, null, struct, ptrs, structs}
use Rattle.cp_tree.specs.NodeOf.{node_of}
use Rattle.cp_fields.specs.Constants.{constant_of, constant_body_of}
use Rattle.cp_fields.specs.Items.{number_item, pointer_item, items_of}
use Rattle.cp_fields.specs.declared.constant.Constant.{Constant}
use Rattle.cp_fields.specs.declared.constant.ConstantBody.{ConstantBody}
use Rattle.cp_fields.specs.declared.row.Row.{Row}
use Rattle.cp_fields.specs.declared.row.Row.TheVariants as rows

-- a constant as an element
abbrev pub tree_item : Constant → Node
tree_item t = pointer_item (constant_of t)

abbrev pub body_item : ConstantBody → Node
body_item b = struct (constant_body_of b).0 (constant_body_of b).1

-- the tree of the list whose elements they are
abbrev pub row_tree : Row → Node
row_tree rows.Null = null
row_tree (rows.Voids v) = v
row_tree (rows.Packed v ws w) = v
row_tree (rows.Pointers v) = v
row_tree (rows.Structs v) = v
row_tree (rows.Owned t) = node_of t.now
row_tree (rows.Constant t) = constant_of t.now

abbrev pub IsPointerList : Node → Type 0
IsPointerList (ptrs ts) = Unit {0}
IsPointerList other = ⊥

abbrev pub IsStructList : Node → Type 0
IsStructList (structs d n bs) = Unit {0}
IsStructList other = ⊥

-- its elements are read in place by their numbers
abbrev pub IsLocated : Row → ℕ → Type 0
IsLocated (rows.Voids v) n = items_of v ≡ map number_item (replicate n 0)
IsLocated (rows.Packed v ws w) n = (0 < w) × (w ≤ 64) × (n < 2 ^ 32) × (items_of v ≡ map number_item (numbers ws.now w n))
IsLocated (rows.Pointers v) n = IsPointerList v × (n < 2 ^ 32)
IsLocated (rows.Structs v) n = IsStructList v × (n < 2 ^ 32)
IsLocated other n = Unit {0}

-- a row of n elements
pub record IsRow (row : Row) (n : ℕ) : Type 0 where
  pub counted : length (items_of (row_tree row)) ≡ n
  pub located : IsLocated row n
