-- Numbers that are put into the data words of a struct. (Encoding specification: "Structs".)
use Rattle.std.specs.Prelude.{◌⊎◌, ℕ, ◌+◌, ◌*◌, ◌/◌, ◌%◌, ◌^◌, ◌<◌, ◌≤◌, Bool, if◌then◌else◌, List, slice_index, slice_set}

-- a word whose w bits from bit s on are those of a number
abbrev pub put : ℕ → ℕ → ℕ → ℕ → ℕ
put word w s n = (word / 2 ^ (s + w) * 2 ^ w + n) * 2 ^ s + word % 2 ^ s

-- data words whose number i of w bits is this
abbrev pub with_number : List ℕ → ℕ → ℕ → ℕ → List ℕ
with_number ws w i n = slice_set ws (i * w / 64) (put (slice_index ws (i * w / 64)) w (i * w % 64) n)

-- a bit as a number
abbrev pub flag_bit : Bool → ℕ
flag_bit b = if b then 1 else 0

-- number i of w bits lies in one word
abbrev pub IsInWord : ℕ → ℕ → Type 0
IsInWord w i = i * w % 64 + w ≤ 64

-- n can be number i of w bits: that lies in one word, and n fits it
abbrev pub IsNumber : ℕ → ℕ → ℕ → Type 0
IsNumber w i n = IsInWord w i × (n < 2 ^ w)

-- number i of w bits and number j of v bits share no bit: one ends where the other begins, or before
abbrev pub AreApart : ℕ → ℕ → ℕ → ℕ → Type 0
AreApart w i v j = (j * v + v ≤ i * w) ⊎ (i * w + w ≤ j * v)
