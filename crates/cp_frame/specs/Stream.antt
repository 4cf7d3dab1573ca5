-- A stream: its frames one after another, and what is wrong with the rest. (Encoding specification, "Serialization Over
-- a Stream" and "Packing".)
use Rattle.std.specs.Prelude.{◌≡◌, ℕ, ◌+◌, ◌/◌, ◌<◌, ◌≤◌, List, [], ◌∷◌, ◌++◌, length, sum, take}
use Rattle.std.specs.Int.{from_le_bytes, w32}
use Rattle.cp_words.specs.Limits.{Bounds}
use Rattle.cp_frame.specs.declared.fault.FrameFault.{FrameFault}
use Rattle.cp_frame.specs.declared.fault.FrameFault.TheVariants as faults
use Rattle.cp_frame.specs.declared.mode.Mode.{Mode}
use Rattle.cp_frame.specs.declared.mode.Mode.TheVariants as modes
use Rattle.cp_packed.specs.Words.{AreBytes, bytes_of}
use Rattle.cp_frame.specs.Frame.{Frame}
use Rattle.cp_packed.specs.Packed.{Packed}

-- The stream is these frames, each with the number of its bytes, one after another, and then the rest.
abbrev pub Frames : Mode → Bounds → List ℕ → List (ℕ × List (List ℕ)) → List ℕ → Type 0
Frames mode limits b [] rest = b ≡ rest
Frames mode limits b (f ∷ more) rest =
    (front : List ℕ) × (back : List ℕ) × (b ≡ front ++ back) × (f.0 ≡ length front) × Frame mode limits f.1 front × Frames mode limits back more rest

-- no front of the bytes is a frame
abbrev pub NoFront : Mode → Bounds → List ℕ → Type 0
NoFront mode limits b = (S : List (List ℕ)) (front back : List ℕ) → b ≡ front ++ back → Frame mode limits S front → ⊥

-- whatever packed words begin with the bytes b, their own bytes begin with l
abbrev pub Lays : List ℕ → List ℕ → Type 0
Lays b l = (ws more : List ℕ) → Packed ws (b ++ more) → (others : List ℕ) × (bytes_of ws ≡ l ++ others)

-- The bytes that a rest lays: itself, or the most that every packed list beginning with it unpacks to.
abbrev pub Laid : Mode → List ℕ → List ℕ → Type 0
Laid modes.Plain b l = l ≡ b
Laid modes.Packed b l = Lays b l × ((longer : List ℕ) → Lays b longer → length longer ≤ length l)

-- why packed bytes aren't unpacked within a limit: the words that they lay whole pass it, or else they end inside a group, or memory ran out
abbrev pub IsNotUnpackedFor : List ℕ → ℕ → FrameFault → Type 0
IsNotUnpackedFor b limit faults.FrameTooLarge = (l : List ℕ) × Laid modes.Packed b l × (limit < length l / 8)
IsNotUnpackedFor b limit faults.Truncated = (l : List ℕ) × Laid modes.Packed b l × (length l / 8 ≤ limit) × ((ws : List ℕ) → Packed ws b → ⊥)
IsNotUnpackedFor b limit faults.OutOfMemory = Unit {0}
IsNotUnpackedFor b limit _ = ⊥

-- the numbers of 32 bits that bytes begin with
abbrev pub numbers : List ℕ → List ℕ
numbers (a ∷ b ∷ c ∷ d ∷ more) = from_le_bytes w32 (a ∷ b ∷ c ∷ d ∷ []) ∷ numbers more
numbers _ = []

-- the sizes among them: after the number of segments less one, as many as there are segments
abbrev pub named_sizes : List ℕ → List ℕ
named_sizes [] = []
named_sizes (last ∷ sizes) = take (last + 1) sizes

-- the number of segments has come, and passes the limit
abbrev pub NamesTooMany : Bounds → List ℕ → Type 0
NamesTooMany limits [] = ⊥
NamesTooMany limits (last ∷ sizes) = limits.segments < last + 1

-- it doesn't, but the sizes that have come pass the limit together
abbrev pub NamesTooMuch : Bounds → List ℕ → Type 0
NamesTooMuch limits [] = ⊥
NamesTooMuch limits (last ∷ sizes) = (last + 1 ≤ limits.segments) × (limits.frame_words < sum (take (last + 1) sizes))

-- the table's fault, by the numbers of it that have come
abbrev pub NamesFault : Bounds → List ℕ → FrameFault → Type 0
NamesFault limits ns faults.TooManySegments = NamesTooMany limits ns
NamesFault limits ns faults.FrameTooLarge = NamesTooMuch limits ns
NamesFault limits ns _ = ⊥

-- a whole frame is laid by packed bytes of which no front is a frame, and all that they may go on to lays more than that
abbrev pub RunsPast : Mode → Bounds → List ℕ → Type 0
RunsPast modes.Plain limits b = ⊥
RunsPast modes.Packed limits b =
    (S : List (List ℕ)) × (l : List ℕ) × (front : List ℕ) × (back : List ℕ)
    × NoFront modes.Packed limits b × Laid modes.Packed b l × (l ≡ front ++ back) × Frame modes.Plain limits S front
    × ((ws more : List ℕ) → Packed ws (b ++ more) → length front < length (bytes_of ws))

-- the rest of a stream has this fault
abbrev pub HasFault : Mode → Bounds → List ℕ → FrameFault → Type 0
HasFault mode limits b faults.RunPastFrame = RunsPast mode limits b
HasFault mode limits b fault = (l : List ℕ) × Laid mode b l × NamesFault limits (numbers l) fault

-- The rest of a stream is a frame that hasn't come whole, without a fault so far.
pub record Open (mode : Mode) (limits : Bounds) (b : List ℕ) : Type 0 where
  pub no_front : NoFront mode limits b
  pub no_fault : (fault : FrameFault) → HasFault mode limits b fault → ⊥

-- two readings of one stream, each up to a rest without a frame, are the same
abbrev pub HasOneReading : Mode → Type 0
HasOneReading mode = (limits : Bounds) (b : List ℕ) (first second : List (ℕ × List (List ℕ))) (rest other : List ℕ)
    → Frames mode limits b first rest → NoFront mode limits rest → Frames mode limits b second other → NoFront mode limits other
    → (first ≡ second) × (rest ≡ other)

-- the frames up to a rest, and those of that rest and what follows it, are those of the whole
abbrev pub CutAnywhere : Mode → Type 0
CutAnywhere mode = (limits : Bounds) (a b : List ℕ) (first second : List (ℕ × List (List ℕ))) (rest last : List ℕ)
    → Frames mode limits a first rest → Frames mode limits (rest ++ b) second last → Frames mode limits (a ++ b) (first ++ second) last

-- what may follow: packed bytes lay nothing where numbers that aren't bytes stand among them
abbrev pub MayFollow : Mode → List ℕ → Type 0
MayFollow modes.Plain more = Unit {0}
MayFollow modes.Packed more = AreBytes more

-- a fault stays, whatever follows
abbrev pub FaultStays : Mode → Type 0
FaultStays mode = (limits : Bounds) (b more : List ℕ) (fault : FrameFault) → MayFollow mode more → HasFault mode limits b fault → HasFault mode limits (b ++ more) fault

-- a rest has one fault at most
abbrev pub HasOneFault : Mode → Type 0
HasOneFault mode = (limits : Bounds) (b : List ℕ) (fault other : FrameFault) → HasFault mode limits b fault → HasFault mode limits b other → fault ≡ other
