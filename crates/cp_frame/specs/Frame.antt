-- Frames in one of the two forms, within the limits. (Encoding specification, "Serialization Over a Stream", "Packing"
-- and "Security considerations".)
use Rattle.std.specs.Prelude.{◌≡◌, ℕ, ◌%◌, ◌==◌, ◌<◌, ◌≤◌, if◌then◌else◌, List, [], ◌∷◌, ◌++◌, length, sum}
use Rattle.std.specs.List.{AllZip, flat_map}
use Rattle.cp_words.specs.Limits.{Bounds}
use Rattle.cp_frame.specs.declared.fault.FrameFault.{FrameFault}
use Rattle.cp_frame.specs.declared.fault.FrameFault.TheVariants as faults
use Rattle.cp_frame.specs.declared.mode.Mode.{Mode}
use Rattle.cp_frame.specs.declared.mode.Mode.TheVariants as modes
use Rattle.cp_frame.specs.Framed.{sizes_of, spelled, table, Framed}
use Rattle.cp_packed.specs.Words.{bytes_of}
use Rattle.cp_packed.specs.Packed.{Packed, Spelt}

-- The segments are no more, and have together no more words, than the limits allow.
pub record IsWithin (limits : Bounds) (S : List (List ℕ)) : Type 0 where
  pub few : length S ≤ limits.segments
  pub small : sum (sizes_of S) ≤ limits.frame_words

-- the bytes are the segments' frame as it is, or packed
abbrev pub IsFormOf : Mode → List (List ℕ) → List ℕ → Type 0
IsFormOf modes.Plain S b = Framed S b
IsFormOf modes.Packed S b = (ws : List ℕ) × Framed S (bytes_of ws) × Packed ws b

-- the bytes are a frame of these segments
pub record Frame (mode : Mode) (limits : Bounds) (S : List (List ℕ)) (b : List ℕ) : Type 0 where
  pub within : IsWithin limits S
  pub form : IsFormOf mode S b

-- the segment table up to a whole word, with zeros where padding is needed
abbrev pub padded_table : List (List ℕ) → List ℕ
padded_table S = table S ++ (if length S % 2 == 0 then spelled (0 ∷ []) else [])

-- the frame that is written: as it is, or the table and each segment packed by themselves
abbrev pub IsWritten : Mode → List (List ℕ) → List ℕ → Type 0
IsWritten modes.Plain S b = b ≡ padded_table S ++ flat_map bytes_of S
IsWritten modes.Packed S b =
    (head : List ℕ) × (front : List ℕ) × (pieces : List (List ℕ))
    × (padded_table S ≡ bytes_of head) × Spelt head front × AllZip Spelt S pieces × (b ≡ front ++ flat_map (λ piece. piece) pieces)

-- the frame that is written comes after the bytes held before
abbrev pub IsWrittenAfter : Mode → List (List ℕ) → List ℕ → List ℕ → Type 0
IsWrittenAfter mode S old new = (frame : List ℕ) × (new ≡ old ++ frame) × IsWritten mode S frame

-- the bytes are what is written of these segments
pub record Written (mode : Mode) (limits : Bounds) (S : List (List ℕ)) (b : List ℕ) : Type 0 where
  pub within : IsWithin limits S
  pub form : IsWritten mode S b

-- what is written of these segments within the limits comes after the bytes held before
abbrev pub WrittenAfter : Mode → Bounds → List (List ℕ) → List ℕ → List ℕ → Type 0
WrittenAfter mode limits S old new = (frame : List ℕ) × (new ≡ old ++ frame) × Written mode limits S frame

-- why a frame isn't written: a limit is passed, the number of segments first, or memory ran out
abbrev pub IsRefusedFor : Bounds → List (List ℕ) → FrameFault → Type 0
IsRefusedFor limits S faults.TooManySegments = limits.segments < length S
IsRefusedFor limits S faults.FrameTooLarge = (length S ≤ limits.segments) × (limits.frame_words < sum (sizes_of S))
IsRefusedFor limits S faults.OutOfMemory = IsWithin limits S
IsRefusedFor limits S _ = ⊥
