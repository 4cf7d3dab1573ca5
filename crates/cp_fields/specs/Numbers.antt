-- The fields of a struct's data section, by their places and defaults. (Encoding specification: "Structs",
-- "Default Values".)
use Rattle.std.specs.Prelude.{ℕ, ◌==◌, Bool, bit_xor}
use Rattle.cp_tree.specs.Elements.{element}
use Rattle.cp_tree.specs.Node.{Node, data_of}

-- number i of w bits of the data section; past its end it is 0
abbrev pub plain : Node → ℕ → ℕ → ℕ
plain t w i = element (data_of t) w i

-- number i of w bits, of a field whose default has the bits d
abbrev pub uint : Node → ℕ → ℕ → ℕ → ℕ
uint t w i d = bit_xor (plain t w i) d

-- bit i of the data section; past its end it is false
abbrev pub flag : Node → ℕ → Bool
flag t i = plain t 1 i == 1
