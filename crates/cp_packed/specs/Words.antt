-- Words of 64 bits, as bytes.
use Rattle.std.specs.Prelude.{ℕ, ◌/◌, ◌^◌, ◌<◌, List, length, map}
use Rattle.std.specs.List.{AllByRecursion, flat_map}
use Rattle.std.specs.Int.{from_le_bytes, to_le_bytes, w64}
use Rattle.std.specs.Simd.{first_chunks}

-- numbers of 64 bits
abbrev pub AreWords : List ℕ → Type 0
AreWords ws = AllByRecursion (λ w. w < 2 ^ 64) ws

-- numbers of 8 bits
abbrev pub AreBytes : List ℕ → Type 0
AreBytes b = AllByRecursion (λ x. x < 2 ^ 8) b

-- words as bytes, the lowest byte of each first
abbrev pub bytes_of : List ℕ → List ℕ
bytes_of ws = flat_map (to_le_bytes w64) ws

-- the words that bytes are, eight to each
abbrev pub words_in : List ℕ → List ℕ
words_in b = map (from_le_bytes w64) (first_chunks 8 (length b / 8) b)
