-- A stream that is fed to a reader in pieces.
use Rattle.std.specs.Prelude.{◌≡◌, ◌≢◌, ℕ, ◌<◌, List, [], ◌∷◌, ◌++◌, length}
use Rattle.std.specs.List.{AllByRecursion, flat_map}
use Rattle.cp_words.specs.Limits.{Bounds, IsAllowed}
use Rattle.cp_frame.specs.declared.fault.FrameFault.{FrameFault}
use Rattle.cp_frame.specs.declared.fault.FrameFault.TheVariants as faults
use Rattle.cp_frame.specs.declared.mode.Mode.{Mode}
use Rattle.cp_packed.specs.Words.{AreWords}
use Rattle.cp_frame.specs.Frame.{Frame, Written}
use Rattle.cp_frame.specs.Stream.{Frames, HasFault}
use Rattle.cp_frame.specs.Reader.{Reader, State, reading, GoesOnAs, StandsFor, IsReading, Gives, Reports}

-- the pieces, one after another
abbrev pub joined : List (List ℕ) → List ℕ
joined pieces = flat_map (λ piece. piece) pieces

-- The pieces were fed one after another, and each was read: together they gave these frames.
abbrev pub Fed : Reader → List (List ℕ) → List (ℕ × List (List ℕ)) → Reader → Type 0
Fed old [] given new = (given ≡ []) × (new ≡ old)
Fed old (piece ∷ pieces) given new =
    (first : List (ℕ × List (List ℕ))) × (later : List (ℕ × List (List ℕ))) × (mid : Reader)
    × Gives old piece mid first × Fed mid pieces later new × (given ≡ first ++ later)

-- what pieces give are the frames of the stream that they make
abbrev pub ReadsAll : Type 0
ReadsAll = (old new : Reader) (pieces : List (List ℕ)) (given : List (ℕ × List (List ℕ))) (b : List ℕ)
    → StandsFor old b → Fed old pieces given new
    → (rest : List ℕ) × Frames old.mode old.limits (b ++ joined pieces) given rest × StandsFor new rest

-- a fault reported for a piece, memory aside, is that of the rest of the stream that all pieces make
abbrev pub ReportsAll : Type 0
ReportsAll = (old mid new : Reader) (pieces : List (List ℕ)) (piece : List ℕ) (given : List (ℕ × List (List ℕ))) (fault : FrameFault) (b : List ℕ)
    → StandsFor old b → Fed old pieces given mid → IsReading mid.state → Reports mid piece new fault → fault ≢ faults.OutOfMemory
    → (rest : List ℕ) × Frames old.mode old.limits (b ++ (joined pieces ++ piece)) given rest × HasFault old.mode old.limits rest fault

-- two states go on alike: they are the same, or the stream is read on, of rests of as many bytes that go on alike
abbrev pub AreAlike : Mode → State → State → Type 0
AreAlike mode (reading rest taken) (reading other count) = GoesOnAs mode rest other × (taken ≡ count)
AreAlike mode state other = state ≡ other

-- it doesn't matter how a stream is cut: it gives the same frames, and leaves a state that goes on alike
abbrev pub ReadsAnyCut : Mode → Type 0
ReadsAnyCut mode = (old new other : Reader) (pieces others : List (List ℕ)) (given gotten : List (ℕ × List (List ℕ))) (b : List ℕ)
    → old.mode ≡ mode → StandsFor old b → Fed old pieces given new → Fed old others gotten other → joined pieces ≡ joined others
    → (given ≡ gotten) × AreAlike mode new.state other.state

-- what is written is a frame of the same segments
abbrev pub IsReadBack : Mode → Type 0
IsReadBack mode = (limits : Bounds) (S : List (List ℕ)) (b : List ℕ)
    → IsAllowed limits → 0 < length S → AllByRecursion AreWords S → Written mode limits S b → Frame mode limits S b
