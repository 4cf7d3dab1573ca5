-- When the fields that are given can be read from the struct that is made of them. (Encoding specification: "Structs".)
use Rattle.std.specs.Prelude.{◌≡◌, ◌≢◌, ℕ, ◌*◌, ◌/◌, ◌^◌, ◌<◌, List, All, AllPairs}
use Rattle.cp_tree.specs.Node.{Node}
use Rattle.cp_tree.specs.Seen.{pointee_of}
use Rattle.cp_fields.specs.Numbers.{uint}
use Rattle.cp_builder.specs.Numbers.{AreApart}
use Rattle.cp_encoder.specs.declared.value.Number.{Number}
use Rattle.cp_encoder.specs.declared.value.Fields.{Fields, out-Fields}
use Rattle.cp_encoder.specs.declared.value.TextPointer.{TextPointer}
use Rattle.cp_encoder.specs.Values.{bits_in, value_node}

-- A number lies in d data words. Its bits fit its width, and so do those of its default.
abbrev pub FitsIn : ℕ → Number → Type 0
FitsIn d n = (n.place * bits_in n.width / 64 < d) × (n.bits < 2 ^ bits_in n.width) × (n.default < 2 ^ bits_in n.width)

-- two numbers share no bit
abbrev pub AreBeside : Number → Number → Type 0
AreBeside n m = AreApart (bits_in m.width) m.place (bits_in n.width) n.place

-- the numbers of a struct that are given, and the pointers
abbrev pub numbers_of : Fields → List Number
numbers_of f = (out-Fields f).numbers.items

abbrev pub pointers_of : Fields → List TextPointer
pointers_of f = (out-Fields f).values.items

-- Each number lies in the struct, and no two of them share a bit.
abbrev pub HasOwnBits : Fields → Type 0
HasOwnBits f = All (FitsIn (out-Fields f).words) (numbers_of f) × AllPairs AreBeside (numbers_of f)

-- Each pointer lies in the struct, and no two of them are in one place.
abbrev pub HasOwnPlaces : Fields → Type 0
HasOwnPlaces f = All (λ (p : TextPointer). p.place < (out-Fields f).pointers) (pointers_of f) × AllPairs (λ (p q : TextPointer). q.place ≢ p.place) (pointers_of f)

-- the field of a number, read from a struct, is that number
abbrev pub IsNumberOf : Node → Number → Type 0
IsNumberOf t n = uint t (bits_in n.width) n.place n.default ≡ n.bits

-- the field of a pointer, read from a struct, stands for its value
abbrev pub IsPointerOf : Node → TextPointer → Type 0
IsPointerOf t p = pointee_of t p.place ≡ value_node p.value
