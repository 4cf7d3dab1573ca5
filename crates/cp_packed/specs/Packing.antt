-- Words written as packed bytes after others.
use Rattle.std.specs.Prelude.{◌≡◌, ◌⊎◌, ℕ, ◌*◌, ◌≤◌, ◌==◌, eqb, not, if◌then◌else◌, List, ◌++◌, map, take, Option, Some, None}
use lib.Lanes.{mask_l}
use Rattle.cp_packed.specs.Packed.{Group, IsGroup, IsSparing, IsLongest, spelling, words_of, Spelt}

-- a word's bytes, of which those that aren't zero are written
abbrev pub bytes_that_count : List ℕ → List (Option ℕ)
bytes_that_count bytes = map (λ b. if b == 0 then None else Some b) bytes

-- A group was appended: words begin with those that it gives, and it is as the writer makes it.
pub record PutsGroup (old new words back : List ℕ) : Type 0 where
  pub group : Group
  pub is : IsGroup group
  pub sparing : IsSparing group
  pub longest : IsLongest group back
  pub spells : new ≡ old ++ spelling group
  pub gives : words ≡ words_of group ++ back

-- What was written of words, where some are left: whatever these are packed as goes on what all are packed as.
pub record PutsFront (old out words left : List ℕ) : Type 0 where
  pub front : List ℕ
  pub text : out ≡ old ++ front
  pub goes : (b : List ℕ) → Spelt left b → Spelt words (front ++ b)

-- bytes were appended
abbrev pub Appends : List ℕ → List ℕ → Type 0
Appends old new = (more : List ℕ) × (new ≡ old ++ more)

-- the words were appended packed
abbrev pub PutsSpelt : List ℕ → List ℕ → List ℕ → Type 0
PutsSpelt old new words = (bytes : List ℕ) × Spelt words bytes × (new ≡ old ++ bytes)

-- There is room for groups of this many words: of all that there are, or of the most that can be taken.
abbrev pub HasRoom : ℕ → ℕ → ℕ → Type 0
HasRoom room words most = (10 * words ≤ room) ⊎ (10 * most ≤ room)

-- a bit for each of the first 64 words that isn't zero, the first word's lowest
abbrev pub IsMaskOf : List ℕ → ℕ → Type 0
IsMaskOf words mask = mask ≡ mask_l (map (λ w. not (eqb w 0)) (take 64 words))
