-- A reader of a stream, as its callers see it.
use Rattle.std.specs.Prelude.{◌≡◌, ◌≢◌, ◌⊎◌, ◌↔◌, ℕ, ◌+◌, ◌*◌, ◌/◌, ◌<◌, ◌≤◌, List, [], ◌++◌, length, sum}
use Rattle.cp_words.specs.Limits.{Bounds}
use Rattle.cp_frame.specs.declared.fault.FrameFault.{FrameFault}
use Rattle.cp_frame.specs.declared.fault.FrameFault.TheVariants as faults
use Rattle.cp_frame.specs.declared.mode.Mode.{Mode}
use Rattle.cp_frame.specs.declared.mode.Mode.TheVariants as modes
use Rattle.cp_frame.specs.Stream.{Frames, HasFault, Open, Laid, numbers, named_sizes}
use Rattle.cp_packed.specs.Packed.{Packed}
use Rattle.cp_frame.specs.Frame.{Frame}

-- A fault was reported; or one was met after frames and is reported next; or the stream is read on, of which a rest of this many bytes goes on as these do.
pub data State : Type 0 where
  failed : State
  refusing : FrameFault → State
  reading : List ℕ → ℕ → State

-- The form and the limits that it was made for, its state, how many bytes and words its vectors hold together, and how many
-- words the buffer has room for that it keeps for later frames.
pub record Reader : Type 0 where
  pub mode : Mode
  pub limits : Bounds
  pub state : State
  pub bytes : ℕ
  pub words : ℕ
  pub spare : ℕ

-- the most that a buffer has room for that is kept for later frames: 2 MiB
abbrev pub most_spare : ℕ
most_spare = 262144

-- the rests of two streams go on alike: they are the same, or unpack to the same whatever follows
abbrev pub GoesOnAs : Mode → List ℕ → List ℕ → Type 0
GoesOnAs modes.Plain b other = b ≡ other
GoesOnAs modes.Packed b other = (ws more : List ℕ) → Packed ws (b ++ more) ↔ Packed ws (other ++ more)

-- a state stands for a rest: it goes on as the rest does, and has come open so far; or the rest has the fault that is reported next
abbrev pub Stands : Mode → Bounds → State → List ℕ → Type 0
Stands mode limits failed b = ⊥
Stands mode limits (refusing fault) b = HasFault mode limits b fault
Stands mode limits (reading rest taken) b = GoesOnAs mode rest b × (taken ≡ length b) × Open mode limits b

-- The reader stands for a stream of which nothing but the rest b is still to be reported.
abbrev pub StandsFor : Reader → List ℕ → Type 0
StandsFor r b = Stands r.mode r.limits r.state b

-- the stream is read on
abbrev pub IsReading : State → Type 0
IsReading failed = ⊥
IsReading (refusing fault) = ⊥
IsReading (reading rest taken) = Unit {0}

-- a fault is kept
abbrev pub IsRefusing : State → Type 0
IsRefusing failed = ⊥
IsRefusing (refusing fault) = Unit {0}
IsRefusing (reading rest taken) = ⊥

-- how many bytes of the open frame have come
abbrev pub taken_of : State → ℕ
taken_of failed = 0
taken_of (refusing fault) = 0
taken_of (reading rest taken) = taken

-- The piece was read: what stood for b gave the frames of b and the piece, and stands for their rest. It keeps a fault of the rest only after frames.
pub record Gives (old : Reader) (piece : List ℕ) (new : Reader) (given : List (ℕ × List (List ℕ))) : Type 0 where
  pub was_reading : IsReading old.state
  pub same_mode : new.mode ≡ old.mode
  pub same_limits : new.limits ≡ old.limits
  pub frames : (b : List ℕ) → StandsFor old b → (rest : List ℕ) × Frames old.mode old.limits (b ++ piece) given rest × StandsFor new rest
  pub kept : IsRefusing new.state → given ≢ []

-- The piece was read up to the end of a frame: what stood for b was ended by the front of the piece up to there, and nothing of another frame has come.
pub record GivesNext (old : Reader) (piece : List ℕ) (taken : ℕ) (segments : List (List ℕ)) (new : Reader) (back : List ℕ) : Type 0 where
  pub was_reading : IsReading old.state
  pub same_mode : new.mode ≡ old.mode
  pub same_limits : new.limits ≡ old.limits
  pub front : List ℕ
  pub whole : piece ≡ front ++ back
  pub shorter : length back < length piece
  pub count : (b : List ℕ) → StandsFor old b → taken ≡ length (b ++ front)
  pub frame : (b : List ℕ) → StandsFor old b → Frame old.mode old.limits segments (b ++ front)
  pub fresh : StandsFor new []

-- why a fault is reported for a piece: it was reported before or kept, memory ran out, or the rest has it
abbrev pub IsReportedFor : Reader → List ℕ → State → FrameFault → Type 0
IsReportedFor r piece failed fault = fault ≡ faults.Failed
IsReportedFor r piece (refusing kept) fault = fault ≡ kept
IsReportedFor r piece (reading rest taken) fault = (fault ≡ faults.OutOfMemory) ⊎ ((b : List ℕ) → StandsFor r b → HasFault r.mode r.limits (b ++ piece) fault)

-- A fault was reported, and the reader has failed.
pub record Reports (old : Reader) (piece : List ℕ) (new : Reader) (fault : FrameFault) : Type 0 where
  pub reported : IsReportedFor old piece old.state fault
  pub failed : new.state ≡ failed

-- why a fault is reported at the end: it was reported before or kept, or the stream ends inside a frame
abbrev pub IsReportedAtEnd : Reader → State → FrameFault → Type 0
IsReportedAtEnd r failed fault = fault ≡ faults.Failed
IsReportedAtEnd r (refusing kept) fault = fault ≡ kept
IsReportedAtEnd r (reading rest taken) fault = (fault ≡ faults.Truncated) × ((b : List ℕ) → StandsFor r b → b ≢ [])

-- The stream ended after a frame, and the reader is as it was.
pub record EndsWell (old new : Reader) : Type 0 where
  pub was_reading : IsReading old.state
  pub same : new ≡ old
  pub nothing : (b : List ℕ) → StandsFor old b → b ≡ []

-- The end reported a fault, and the reader has failed.
pub record ReportsAtEnd (old new : Reader) (fault : FrameFault) : Type 0 where
  pub reported : IsReportedAtEnd old old.state fault
  pub failed : new.state ≡ failed

-- a reader of which nothing has come
abbrev pub new_reader : Mode → Bounds → Reader
new_reader mode limits = record { mode = mode; limits = limits; state = reading [] 0; bytes = 0; words = 0; spare = 0 }

-- these are all bytes to come before the rest is a frame, in the plain form once the segment table has come
abbrev pub AreAllToCome : Mode → Bounds → List ℕ → ℕ → Type 0
AreAllToCome modes.Plain limits b n = (S : List (List ℕ)) (more : List ℕ) → Frame modes.Plain limits S (b ++ more) → 8 * (length S / 2 + 1) ≤ length b → n ≡ length more
AreAllToCome modes.Packed limits b n = Unit {0}

-- This many bytes, and at least one, are still to come before the rest is a frame.
pub record IsNeeded (mode : Mode) (limits : Bounds) (b : List ℕ) (n : ℕ) : Type 0 where
  pub some : 0 < n
  pub to_come : (S : List (List ℕ)) (more : List ℕ) → Frame mode limits S (b ++ more) → n ≤ length more
  pub all : AreAllToCome mode limits b n

-- how many bytes a reader needs at the least: none where a fault was reported or is reported next
abbrev pub Needs : Reader → State → ℕ → Type 0
Needs r failed n = n ≡ 0
Needs r (refusing fault) n = n ≡ 0
Needs r (reading rest taken) n = (b : List ℕ) → StandsFor r b → IsNeeded r.mode r.limits b n

-- The words kept are no more than the rest lays, whole, and no more than the segment table and the sizes that it names. The
-- buffer that is kept for later frames is small, whatever frames came.
pub record KeepsLittle (r : Reader) : Type 0 where
  pub bytes : r.bytes ≤ 9
  pub laid : (b l : List ℕ) → StandsFor r b → Laid r.mode b l → 8 * r.words ≤ length l
  pub named : (b l : List ℕ) → StandsFor r b → Laid r.mode b l → r.words ≤ 257 + sum (named_sizes (numbers l))
  pub spare : r.spare ≤ most_spare

-- the reader as it was, but for the buffer that it keeps for later frames
abbrev pub IsAsBefore : Reader → Reader → Type 0
IsAsBefore old new = new ≡ record old { spare = new.spare }
