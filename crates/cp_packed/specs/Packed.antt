-- The packed form of words. (Encoding specification, "Packing".)
use Rattle.std.specs.Prelude.{◌≡◌, ◌≢◌, ◌⊎◌, ℕ, suc, ◌+◌, ◌*◌, ◌^◌, ◌<◌, ◌≤◌, List, [], ◌∷◌, ◌++◌, length, map, replicate, count_by, eqb, Option, Some, None, unwrap_or}
use Rattle.std.specs.List.{AllByRecursion, flat_map}
use Rattle.std.specs.Int.{to_le_bytes, from_le_bytes, w64}
use Rattle.cp_packed.specs.Words.{AreWords, bytes_of}

-- A word whose bytes that are zero needn't be written, a run of zero words, or a word with this many after it as they are.
pub data Group : Type 0 where
  sparse : List (Option ℕ) → Group
  zeros : ℕ → Group
  raw : ℕ → List ℕ → Group

-- a bit for each byte of a word that is written, the first byte's lowest
abbrev pub tag : List (Option ℕ) → ℕ
tag [] = 0
tag (None ∷ bytes) = 2 * tag bytes
tag (Some b ∷ bytes) = 1 + 2 * tag bytes

-- the bytes that are written
abbrev pub written : List (Option ℕ) → List ℕ
written [] = []
written (None ∷ bytes) = written bytes
written (Some b ∷ bytes) = b ∷ written bytes

-- A sparse word has eight bytes, of which some but not all are written. A run's count is one byte.
abbrev pub IsGroup : Group → Type 0
IsGroup (sparse bytes) = (length bytes ≡ 8) × (0 < tag bytes) × (tag bytes < 255) × AllByRecursion (λ b. b < 256) (written bytes)
IsGroup (zeros more) = more < 256
IsGroup (raw w ws) = (w < 2 ^ 64) × AreWords ws × (length ws < 256)

-- A tag and the bytes written; 00 and the number of words after the first; ff, a word, the number of words after it, and these.
abbrev pub spelling : Group → List ℕ
spelling (sparse bytes) = tag bytes ∷ written bytes
spelling (zeros more) = 0 ∷ more ∷ []
spelling (raw w ws) = 255 ∷ (to_le_bytes w64 w ++ (length ws ∷ bytes_of ws))

-- the words that a group gives
abbrev pub words_of : Group → List ℕ
words_of (sparse bytes) = from_le_bytes w64 (map (λ b. unwrap_or b 0) bytes) ∷ []
words_of (zeros more) = replicate (suc more) 0
words_of (raw w ws) = w ∷ ws

-- the bytes are groups that together give the words
pub record Packed (ws b : List ℕ) : Type 0 where
  pub groups : List Group
  pub each : AllByRecursion IsGroup groups
  pub spells : b ≡ flat_map spelling groups
  pub gives : ws ≡ flat_map words_of groups

-- how many of a word's bytes are zero
abbrev pub zero_bytes : ℕ → ℕ
zero_bytes w = count_by (eqb 0) (to_le_bytes w64 w)

-- the first word, if any, isn't one of these
abbrev pub StartsWithout : (ℕ → Type 0) → List ℕ → Type 0
StartsWithout P [] = Unit {0}
StartsWithout P (w ∷ ws) = P w → ⊥

-- a run of fewer than 256 words doesn't end before a word that it could take
abbrev pub IsLongest : Group → List ℕ → Type 0
IsLongest (sparse bytes) after = Unit {0}
IsLongest (zeros more) after = (more ≡ 255) ⊎ StartsWithout (λ w. w ≡ 0) after
IsLongest (raw w ws) after = (length ws ≡ 255) ⊎ StartsWithout (λ w. zero_bytes w ≤ 1) after

-- a byte is written exactly if it isn't zero, and words are taken as they are only where at most one of their bytes is zero
abbrev pub IsSparing : Group → Type 0
IsSparing (sparse bytes) = AllByRecursion (λ b. b ≢ 0) (written bytes)
IsSparing (zeros more) = Unit {0}
IsSparing (raw w ws) = (zero_bytes w ≡ 0) × AllByRecursion (λ w. zero_bytes w ≤ 1) ws

-- each run is as long as possible
abbrev pub AreLongest : List Group → Type 0
AreLongest [] = Unit {0}
AreLongest (g ∷ groups) = IsLongest g (flat_map words_of groups) × AreLongest groups

-- the bytes are the words packed as the writer does it: bytes only where they aren't zero, runs as long as possible
pub record Spelt (ws b : List ℕ) : Type 0 where
  pub groups : List Group
  pub each : AllByRecursion IsGroup groups
  pub sparing : AllByRecursion IsSparing groups
  pub longest : AreLongest groups
  pub spells : b ≡ flat_map spelling groups
  pub gives : ws ≡ flat_map words_of groups
