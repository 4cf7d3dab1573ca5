-- Packed words read group by group. No public clause names these.
use Rattle.std.specs.Prelude.{◌≡◌, ℕ, List, [], ◌++◌, Option, Some, None}
use Rattle.cp_packed.specs.Unpacking.{nothing, after, given}

-- A front of the bytes brings words, and leaves this many of a raw run to come.
pub record Decodes (bytes words : List ℕ) (run : ℕ) (left : List ℕ) : Type 0 where
  pub front : List ℕ
  pub whole : bytes ≡ front ++ left
  pub brings : words ≡ given nothing front
  pub open_then : after nothing front ≡ record { run = run; part = [] }

-- The first bytes of a group were taken, with the words that they bring.
pub record TakesHeader (old left new : List ℕ) (run : ℕ) (back : List ℕ) : Type 0 where
  pub front : List ℕ
  pub whole : left ≡ front ++ back
  pub brings : new ≡ old ++ given nothing front
  pub open_then : after nothing front ≡ record { run = run; part = [] }

-- where nothing was taken, bytes are missing
abbrev pub TakesNone : {X : Type 0} → List ℕ → Option X → Type 0
TakesNone left None = after nothing left ≡ nothing → ⊥
TakesNone left (Some taken) = Unit {0}
