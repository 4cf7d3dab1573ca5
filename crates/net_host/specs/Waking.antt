-- What goes from one connection to another.
use Rattle.std.specs.Prelude.{◌≡◌, ℕ, ◌+◌, ◌*◌, ◌%◌, ◌^◌, ◌<◌, List, [], ◌∷◌, ◌++◌, Some, None}
use Rattle.cp_objects.specs.declared.letters.Letter.{Letter}
use Rattle.cp_objects.specs.ObjectTable.{ObjectTableKind}
use Rattle.cp_session.specs.Doing.{HandsOn}
use Rattle.cp_session.specs.State.{State}

-- the number of the session of a connection of this number, under this key: 32 bits of each
abbrev pub session_of : ℕ → ℕ → ℕ
session_of number key = (number % 2 ^ 32) * 2 ^ 32 + key % 2 ^ 32

-- the key of the connection whose session has this number (there is no memory for 2^32 connections)
abbrev pub key_of : ℕ → ℕ
key_of session = session % 2 ^ 32

-- No two connections have sessions of one number, as long as fewer than 2^32 came.
abbrev pub NamesOne : Type 0
NamesOne =
    (number key other place : ℕ) → number < 2 ^ 32 → other < 2 ^ 32 → key < 2 ^ 32 → place < 2 ^ 32 → session_of number key ≡ session_of other place
    → (number ≡ other) × (key ≡ place)

module _ {H : Type 0} (table : ObjectTableKind H) where
  -- a session handed out these letters to others, in order, and did nothing else
  pub data HandsOut (old : State H) : List Letter → State H → Type 0 where
    hands_none : HandsOut old [] old
    hands_more : {before sent : List Letter} {mid new : State H} (letter : Letter) → HandsOut old before mid → HandsOn table (Some letter) mid new
        → sent ≡ before ++ letter ∷ [] → HandsOut old sent new

  -- these are all that it had
  abbrev pub HandsAll : State H → List Letter → State H → Type 0
  HandsAll old sent new = (mid : State H) × HandsOut old sent mid × HandsOn table None mid new
