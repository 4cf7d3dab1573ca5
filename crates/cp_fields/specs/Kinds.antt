-- The kinds of what pointers stand for, and which of them a list may be read from. (Encoding specification: "Lists".)
use Rattle.std.specs.Prelude.{ℕ, Bool, true, false, nat_lt, nat_le, Result, Err}
use Rattle.cp_words.specs.Word.{bits_of}
use Rattle.cp_words.specs.declared.pointer.ElementSize.{ElementSize}
use Rattle.cp_words.specs.declared.pointer.ElementSize.TheVariants as sizes
use Rattle.cp_tree.specs.Node.{element_size, Node, null, cap, struct, list, ptrs, structs}
use Rattle.cp_fields.specs.declared.kind.Kind.{Kind}
use Rattle.cp_fields.specs.declared.kind.Kind.TheVariants as kinds
use Rattle.cp_fields.specs.declared.kind.WrongKind.{WrongKind}

abbrev pub kind_of : Node → Kind
kind_of null = kinds.Null
kind_of (cap i) = kinds.Capability
kind_of (struct ws ts) = kinds.Struct
kind_of (list es) = kinds.List (element_size es)
kind_of (ptrs ts) = kinds.List sizes.Pointer
kind_of (structs d n bs) = kinds.List sizes.Composite

-- the field's pointer is of another kind than the one wanted
abbrev pub wrong : {A : Type 0} → Kind → Node → Result A WrongKind
wrong wanted t = Err (record { wanted = wanted; found = kind_of t })

-- Whether elements of a size are read from those of another: bits from bits alone, structs and voids from any others,
-- pointers from pointers, and numbers from numbers that are no narrower.
abbrev pub reads_from : ElementSize → ElementSize → Bool
reads_from sizes.Bit sizes.Bit = true
reads_from sizes.Bit found = false
reads_from wanted sizes.Bit = false
reads_from sizes.Void found = true
reads_from sizes.Composite found = true
reads_from sizes.Pointer sizes.Pointer = true
reads_from sizes.Pointer found = false
reads_from wanted sizes.Pointer = false
reads_from wanted found = nat_le (bits_of wanted) (bits_of found)

-- Whether elements of a size are read from structs of d data words and n pointers: structs and voids from any,
-- pointers from a first pointer, numbers from a first data word, and bits from none.
abbrev pub reads_from_structs : ElementSize → ℕ → ℕ → Bool
reads_from_structs sizes.Void d n = true
reads_from_structs sizes.Composite d n = true
reads_from_structs sizes.Bit d n = false
reads_from_structs sizes.Pointer d n = nat_lt 0 n
reads_from_structs wanted d n = nat_lt 0 d
