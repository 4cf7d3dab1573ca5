-- The fields of a struct. (Encoding specification: "Structs", "Lists", "Default Values".)
use Rattle.std.specs.Prelude.{◌≡◌, ℕ, true, ◌-◌, ◌==◌, ◌&&◌, Bool, if◌then◌else◌, List, [], ◌∷◌, length, take, slice_index_or}
use Rattle.std.specs.Str.{is_utf8}
use Rattle.cp_tree.specs.Elements.{element}
use Rattle.cp_tree.specs.Node.{bytes, Node, null, struct, list, structs, Bodies, no_bodies, body}
use Rattle.cp_messages.specs.declared.fault.Field.{Field}
use Rattle.cp_messages.specs.declared.fault.SchemaFault.{SchemaFault}
use Rattle.cp_messages.specs.declared.fault.SchemaFault.TheVariants as faults

-- Number i of 16 bits of a data section, of 32 bits, and of 64 bits. What lies past the section's end is zero.
abbrev pub u16_of : List ℕ → ℕ → ℕ
u16_of ws i = element ws 16 i

abbrev pub u32_of : List ℕ → ℕ → ℕ
u32_of ws i = element ws 32 i

abbrev pub u64_of : List ℕ → ℕ → ℕ
u64_of ws i = element ws 64 i

-- bit i of a data section
abbrev pub bit_of : List ℕ → ℕ → Bool
bit_of ws i = element ws 1 i == 1

-- a pointer that a field of a struct's type may hold: null, or a struct
abbrev pub IsStructField : Node → Type 0
IsStructField null = Unit {0}
IsStructField (struct ws ts) = Unit {0}
IsStructField other = ⊥

-- the structs of a composite list, in order; of any other tree there are none
abbrev pub structs_in : Bodies → List Node
structs_in no_bodies = []
structs_in (body ws ts bs) = struct ws ts ∷ structs_in bs

abbrev pub items_of : Node → List Node
items_of (structs d n bs) = structs_in bs
items_of other = []

-- The bytes of a list hold a text: the last is zero, and those before it are UTF-8.
abbrev pub is_text : List ℕ → Bool
is_text bs = (slice_index_or bs (length bs - 1) 1 == 0) && is_utf8 (take (length bs - 1) bs)

-- the bytes of a list of bytes
abbrev pub bytes_of : Node → List ℕ
bytes_of (list (bytes bs)) = bs
bytes_of other = []

-- a text: the bytes of a list but for the last; a null pointer is the empty text
abbrev pub text_of : Node → List ℕ
text_of t = take (length (bytes_of t) - 1) (bytes_of t)

-- a pointer that a field of the type Text may hold: null, or a list of bytes that holds a text
abbrev pub IsTextField : Node → Type 0
IsTextField null = Unit {0}
IsTextField (list (bytes bs)) = is_text bs ≡ true
IsTextField other = ⊥

-- a pointer that a list of structs may hold: null, or a composite list
abbrev pub IsListField : Node → Type 0
IsListField null = Unit {0}
IsListField (structs d n bs) = Unit {0}
IsListField other = ⊥

-- The faults of a pointer field. One of a struct's type holds null or a struct, and may have faults inside.
abbrev pub struct_faults : Field → (Node → List SchemaFault) → Node → List SchemaFault
struct_faults f inside null = inside null
struct_faults f inside (struct ws ts) = inside (struct ws ts)
struct_faults f inside other = faults.Kind f ∷ []

-- One that is a list of structs holds null or a composite list, whose structs may have faults.
abbrev pub list_faults : Field → (List Node → List SchemaFault) → Node → List SchemaFault
list_faults f inside null = inside []
list_faults f inside (structs d n bs) = inside (structs_in bs)
list_faults f inside other = faults.Kind f ∷ []

-- One that is a text holds null or a list of bytes, which hold a text.
abbrev pub text_faults : Field → Node → List SchemaFault
text_faults f null = []
text_faults f (list (bytes bs)) = if is_text bs then [] else (faults.Text f ∷ [])
text_faults f other = faults.Kind f ∷ []
