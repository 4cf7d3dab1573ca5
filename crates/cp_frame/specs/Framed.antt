-- A message's segments as bytes. (Encoding specification, "Serialization Over a Stream".)
use Rattle.std.specs.Prelude.{◌≡◌, ℕ, ◌-◌, ◌%◌, ◌^◌, ◌<◌, ◌≤◌, List, ◌∷◌, ◌++◌, length, map}
use Rattle.std.specs.List.{AllByRecursion, flat_map}
use Rattle.std.specs.Int.{to_le_bytes, w32}
use Rattle.cp_packed.specs.Words.{AreWords, bytes_of}

-- numbers of 32 bits as bytes, the lowest byte of each first
abbrev pub spelled : List ℕ → List ℕ
spelled ns = flat_map (to_le_bytes w32) ns

-- how many words each segment has
abbrev pub sizes_of : List (List ℕ) → List ℕ
sizes_of S = map (λ seg. length seg) S

-- the number of segments less one, and the size of each
abbrev pub table : List (List ℕ) → List ℕ
table S = spelled ((length S - 1) ∷ sizes_of S)

-- The bytes are the segment table, padding of any value up to a whole word, and the segments in order.
pub record Framed (S : List (List ℕ)) (b : List ℕ) : Type 0 where
  pub some : 0 < length S
  pub few : length S ≤ 2 ^ 32
  pub small : AllByRecursion (λ size. size < 2 ^ 32) (sizes_of S)
  pub are_words : AllByRecursion AreWords S
  pub padding : List ℕ
  pub short : length padding < 8
  pub whole : length (table S ++ padding) % 8 ≡ 0
  pub spells : b ≡ (table S ++ padding) ++ flat_map bytes_of S
