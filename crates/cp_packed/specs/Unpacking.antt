-- The packed form byte by byte: what bytes have brought, and what is left open.
use Rattle.std.specs.Prelude.{ℕ, zero, suc, ◌-◌, ◌*◌, ◌/◌, ◌%◌, ◌==◌, ◌<◌, if◌then◌else◌, List, [], ◌∷◌, ◌++◌, length, replicate, drop, slice_index}
use Rattle.std.specs.Int.{from_le_bytes, w64}
use Rattle.std.specs.Int.RustNames.{count_ones}
use Rattle.cp_packed.specs.Words.{AreBytes, bytes_of}
use Rattle.cp_packed.specs.declared.group.OpenGroup.{OpenGroup}

-- A part of a group: how many words of a raw run are still to come, and the bytes that aren't whole words, its tag among them.
pub record Pending : Type 0 where
  pub run : ℕ
  pub part : List ℕ

abbrev pub nothing : Pending
nothing = record { run = 0; part = [] }

-- how many bytes a group with this tag has, before the further words of a raw run
abbrev pub header_of : ℕ → ℕ
header_of tag = if tag == 0 then 2 else (if tag == 255 then 10 else suc (count_ones tag))

-- the first of these bytes, if there is one, and then others
abbrev pub first_and : List ℕ → List ℕ → List ℕ
first_and [] others = []
first_and (x ∷ written) others = x ∷ others

-- this many bytes of a word, the lowest bit of the tag for the first, up to the first that is written and hasn't come
unfoldable pub laid_by : ℕ → ℕ → List ℕ → List ℕ
laid_by zero tag written = []
laid_by (suc n) tag written = if tag % 2 == 0 then 0 ∷ laid_by n (tag / 2) written else first_and written (laid_by n (tag / 2) (drop 1 written))

-- how many words follow the first of a group, by its count
abbrev pub run_of : ℕ → List ℕ → ℕ
run_of tag following = if tag == 255 then slice_index following 8 else 0

-- the words that are known once a group's first bytes have come
abbrev pub first_words : ℕ → List ℕ → List ℕ
first_words tag following = if tag == 0 then replicate (suc (slice_index following 0)) 0 else from_le_bytes w64 (laid_by 8 tag following) ∷ []

-- what is left open: nothing of the words that are whole
abbrev pub settled : ℕ → List ℕ → Pending
settled zero [] = nothing
settled zero (tag ∷ following) = if suc (length following) == header_of tag then record { run = run_of tag following; part = [] } else record { run = 0; part = tag ∷ following }
settled (suc n) part = if length part == 8 then record { run = n; part = [] } else record { run = suc n; part = part }

-- the words that are whole
abbrev pub given_by : ℕ → List ℕ → List ℕ
given_by zero [] = []
given_by zero (tag ∷ following) = if suc (length following) == header_of tag then first_words tag following else []
given_by (suc n) part = if length part == 8 then from_le_bytes w64 part ∷ [] else []

-- what is open after one more byte, and the words that it brings
abbrev pub next : Pending → ℕ → Pending
next p x = settled p.run (p.part ++ x ∷ [])

abbrev pub brought : Pending → ℕ → List ℕ
brought p x = given_by p.run (p.part ++ x ∷ [])

-- what is open after bytes, and the words that they bring
abbrev pub after : Pending → List ℕ → Pending
after p [] = p
after p (x ∷ b) = after (next p x) b

abbrev pub given : Pending → List ℕ → List ℕ
given p [] = []
given p (x ∷ b) = brought p x ++ given (next p x) b

-- Less has come than would be whole.
abbrev pub IsShort : ℕ → List ℕ → Type 0
IsShort zero [] = Unit {0}
IsShort zero (tag ∷ following) = suc (length following) < header_of tag
IsShort (suc n) part = length part < 8

pub record IsPending (p : Pending) : Type 0 where
  pub are_bytes : AreBytes p.part
  pub few : p.run < 256
  pub short : IsShort p.run p.part

-- how many bytes a group still needs at the least; where nothing of one has come, two
abbrev pub still : ℕ → List ℕ → ℕ
still zero [] = 2
still zero (tag ∷ following) = header_of tag - suc (length following)
still (suc n) part = 8 * suc n - length part

-- the bytes that are certain to come next in the words
abbrev pub laid_in : ℕ → List ℕ → List ℕ
laid_in zero [] = []
laid_in zero (tag ∷ following) = laid_by 8 tag following
laid_in (suc n) part = part

abbrev pub laid : Pending → List ℕ
laid p = laid_in p.run p.part

-- all bytes that packed bytes lay
abbrev pub all_laid : List ℕ → List ℕ
all_laid b = bytes_of (given nothing b) ++ laid (after nothing b)

abbrev pub pending_of : OpenGroup → Pending
pending_of g = record { run = g.run; part = g.part.items }
