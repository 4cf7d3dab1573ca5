-- The trees that are looked at, in a message or owned.
use Rattle.std.specs.Prelude.{ℕ, ◌^◌, ◌<◌, List, [], ◌∷◌}
use Rattle.cp_tree.specs.Elements.{numbers}
use Rattle.cp_tree.specs.Node.{Node, null, Nodes, no_nodes, node, IsStruct}
use Rattle.cp_tree.specs.NodeOf.{node_of, body_of}
use Rattle.cp_fields.specs.Constants.{constant_of, constant_body_of}
use Rattle.cp_fields.specs.Pointers.{pointers_of}
use Rattle.cp_fields.specs.declared.pointer_reader.Part.{Part}
use Rattle.cp_fields.specs.declared.pointer_reader.Part.TheVariants as parts
use Rattle.cp_fields.specs.declared.bytes.BorrowedBytes.{BorrowedBytes}
use Rattle.cp_fields.specs.declared.bytes.BorrowedBytes.TheVariants as lents
use Rattle.cp_fields.specs.declared.structure.Data.{Data}
use Rattle.cp_fields.specs.declared.structure.Data.TheVariants as datas
use Rattle.cp_fields.specs.declared.structure.Pointers.{Pointers}
use Rattle.cp_fields.specs.declared.structure.Pointers.TheVariants as rows

abbrev pub part_node : Part → Node
part_node parts.Null = null
part_node (parts.View v) = v
part_node (parts.Tree t) = node_of t.now
part_node (parts.Constant t) = constant_of t.now

-- the bytes that words hold, or those of a slice
abbrev pub bytes_in : BorrowedBytes → List ℕ
bytes_in (lents.Words ws n) = numbers ws.now 8 n
bytes_in (lents.Slice bs) = bs.now

-- the data words of a struct: those of a body, or a number alone
abbrev pub data_in : Data → List ℕ
data_in (datas.Words ws) = ws.now
data_in (datas.Number n) = n ∷ []

-- what the pointers of a struct stand for: those of a body, or a pointer alone
abbrev pub pointers_in : Pointers → Nodes
pointers_in rows.Nulls = no_nodes
pointers_in (rows.View v) = pointers_of v
pointers_in (rows.Body b) = (body_of b.now).1
pointers_in (rows.Only t) = node t no_nodes
pointers_in (rows.Constant b) = (constant_body_of b.now).1

-- few enough bytes of words for a list
abbrev pub IsLent : BorrowedBytes → Type 0
IsLent (lents.Words ws n) = n < 2 ^ 32
IsLent (lents.Slice bs) = Unit {0}

-- pointers that are read in place are those of a struct
abbrev pub HaveStruct : Pointers → Type 0
HaveStruct (rows.View v) = IsStruct v
HaveStruct other = Unit {0}
