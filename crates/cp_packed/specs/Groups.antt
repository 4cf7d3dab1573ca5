-- Groups of the packed form taken at once.
use Rattle.std.specs.Prelude.{◌≡◌, ◌⊎◌, ℕ, ◌+◌, ◌-◌, ◌<◌, ◌≤◌, List, [], ◌++◌, length, replicate, slice_index}
use Rattle.cp_packed.specs.Words.{AreWords}
use Rattle.cp_packed.specs.Unpacking.{Pending, after, given}

-- nothing of a group, and this many words of a raw run still to come
abbrev pub running : ℕ → Pending
running run = record { run = run; part = [] }

-- A front of the bytes was taken, with the words that it brings: no more than fit, and as many only where no run goes on.
pub record TakesGroups (most : ℕ) (old : List ℕ) (run : ℕ) (left new : List ℕ) (next : ℕ) (back : List ℕ) : Type 0 where
  pub front : List ℕ
  pub whole : left ≡ front ++ back
  pub are_words : AreWords (given (running run) front)
  pub puts : new ≡ old ++ given (running run) front
  pub open_then : after (running run) front ≡ running next
  pub few : next < 256
  pub within : length new ≤ most
  pub ends : length new ≡ most → next ≡ 0

-- The group that these bytes begin with brings more words than fit: a run of zero words, or the last word
-- that fits and a raw run after it.
abbrev pub IsTooMuch : ℕ → List ℕ → Type 0
IsTooMuch missing back =
    ((slice_index back 0 ≡ 0) × (missing < slice_index back 1 + 1))
    ⊎ ((slice_index back 0 ≡ 255) × (missing ≡ 1) × (0 < slice_index back 9))

-- Nothing more is taken at once: no word fits; or of a raw run the next word hasn't come, or it would be the last that
-- fits and the run goes on; or of a group ten bytes haven't come, or it brings too much.
abbrev pub IsAtEnd : ℕ → ℕ → List ℕ → Type 0
IsAtEnd missing run back =
    (missing ≡ 0)
    ⊎ ((0 < run) × ((length back < 8) ⊎ ((missing ≡ 1) × (1 < run))))
    ⊎ ((run ≡ 0) × ((length back < 10) ⊎ IsTooMuch missing back))

-- A front of the bytes was taken, and the words that it brings were put over the first of this many zeros. No run goes on.
pub record FillsFront (most : ℕ) (left new : List ℕ) (filled : ℕ) (back : List ℕ) : Type 0 where
  pub words : List ℕ
  pub takes : TakesGroups most [] 0 left words 0 back
  pub count : length words ≡ filled
  pub puts : new ≡ words ++ replicate (most - filled) 0
