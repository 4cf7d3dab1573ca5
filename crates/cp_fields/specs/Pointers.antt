-- The pointer fields of a struct: what each type of a field is read as, and what it can't be read from.
-- (Encoding specification: "Structs", "Lists", "Default Values".)
use Rattle.std.specs.Prelude.{◌≡◌, ℕ, ◌-◌, ◌==◌, Bool, if◌then◌else◌, Option, Some, None, Result, Ok, Err, List, [], length, take, slice_index_or}
use Rattle.cp_words.specs.declared.pointer.ElementSize.{ElementSize}
use Rattle.cp_words.specs.declared.pointer.ElementSize.TheVariants as sizes
use Rattle.cp_tree.specs.Node.{bytes, element_size, Node, null, cap, struct, list, ptrs, structs, Nodes, no_nodes}
use Rattle.cp_fields.specs.Kinds.{wrong, reads_from, reads_from_structs}
use Rattle.cp_fields.specs.Items.{items_of}
use Rattle.cp_fields.specs.declared.kind.Kind.TheVariants as kinds
use Rattle.cp_fields.specs.declared.kind.WrongKind.{WrongKind}

-- a struct's pointers; any other tree has none
abbrev pub pointers_of : Node → Nodes
pointers_of (struct ws ts) = ts
pointers_of other = no_nodes

-- a struct; null stands for the struct whose fields are all as by default
abbrev pub struct_field : Node → Result Node WrongKind
struct_field null = Ok (struct [] no_nodes)
struct_field (struct ws ts) = Ok (struct ws ts)
struct_field t = wrong kinds.Struct t

-- the last byte exists and is zero
abbrev pub ends_in_zero : List ℕ → Bool
ends_in_zero bs = slice_index_or bs (length bs - 1) 1 == 0

-- the bytes of a text: those of a list but for the last, which is zero; null stands for the default
abbrev pub text_field : List ℕ → Node → Result (List ℕ) WrongKind
text_field default null = Ok default
text_field default (list (bytes bs)) = if ends_in_zero bs then Ok (take (length bs - 1) bs) else wrong kinds.Text (list (bytes bs))
text_field default t = wrong kinds.Text t

-- the bytes of a list of bytes; null stands for the default
abbrev pub data_field : List ℕ → Node → Result (List ℕ) WrongKind
data_field default null = Ok default
data_field default (list (bytes bs)) = Ok bs
data_field default t = wrong kinds.Data t

-- a capability's index in the table that goes with the message; null is none
abbrev pub cap_field : Node → Result (Option ℕ) WrongKind
cap_field null = Ok None
cap_field (cap i) = Ok (Some i)
cap_field t = wrong kinds.Capability t

-- the elements of a list whose elements are wanted of this size; null is the empty list
abbrev pub list_field : ElementSize → Node → Result (List Node) WrongKind
list_field size null = Ok []
list_field size (list es) = if reads_from size (element_size es) then Ok (items_of (list es)) else wrong (kinds.List size) (list es)
list_field size (ptrs ts) = if reads_from size sizes.Pointer then Ok (items_of (ptrs ts)) else wrong (kinds.List size) (ptrs ts)
list_field size (structs d n bs) = if reads_from_structs size d n then Ok (items_of (structs d n bs)) else wrong (kinds.List size) (structs d n bs)
list_field size t = wrong (kinds.List size) t

-- what is read is the tree of a list whose elements are wanted of this size; or the fault
abbrev pub Lists : ElementSize → Node → Result Node WrongKind → Type 0
Lists size t (Ok found) = (found ≡ t) × (list_field size t ≡ Ok (items_of t))
Lists size t (Err fault) = list_field size t ≡ Err fault

-- this tree, or where it is null, a default
abbrev pub or_default : Node → Node → Node
or_default null default = default
or_default t default = t

-- what is read, seen so, is this; or this fault
abbrev pub Reads : {A B : Type 0} → Result A WrongKind → (A → B) → Result B WrongKind → Type 0
Reads (Ok x) seen wanted = wanted ≡ Ok (seen x)
Reads (Err e) seen wanted = wanted ≡ Err e

-- what is read, put into this; or the fault
abbrev pub held : {A B : Type 0} → (A → B) → Result A WrongKind → Result B WrongKind
held f (Ok x) = Ok (f x)
held f (Err e) = Err e
