-- What is kept of the rest of a stream, in either form. No public clause names these.
use Rattle.std.specs.Prelude.{◌≡◌, ◌⊎◌, ℕ, ◌+◌, ◌*◌, ◌<◌, ◌≤◌, List, [], ◌∷◌, ◌++◌, length}
use Rattle.std.specs.List.{flat_map}
use Rattle.std.specs.Int.{to_le_bytes, w64}
use Rattle.cp_words.specs.Limits.{Bounds}
use Rattle.cp_frame.specs.declared.fault.FrameFault.{FrameFault}
use Rattle.cp_frame.specs.declared.fault.FrameFault.TheVariants as faults
use Rattle.cp_frame.specs.declared.mode.Mode.{Mode}
use Rattle.cp_frame.specs.declared.mode.Mode.TheVariants as modes
use Rattle.cp_frame.specs.declared.frame.OpenFrame.{OpenFrame}
use Rattle.cp_frame.specs.declared.rest.Rest.{Rest}
use Rattle.cp_packed.specs.Words.{AreWords, bytes_of}
use Rattle.cp_frame.specs.Frame.{Frame}
use Rattle.cp_frame.specs.Stream.{Frames, HasFault, NamesFault, numbers}
use Rattle.cp_frame.specs.Reader.{Stands, reading}
use Rattle.cp_frame.specs.Parts.{IsOpen, IsBegun, IsComplete, IsEmpty, IsFaultOf, NamesLittle, rest_of, kept_words}
use Rattle.cp_words.specs.Segments.{words_of}
use Rattle.cp_packed.specs.Unpacking.{IsPending, nothing, next, brought, laid, pending_of}

-- the words that have come
abbrev pub words_in_order : OpenFrame → List ℕ
words_in_order f = f.table.items ++ (flat_map (λ ws. ws) (words_of f.segments.items) ++ f.words.items)

-- a rest with another frame
abbrev pub with_frame : Rest → OpenFrame → Rest
with_frame r frame = record { frame = frame; group = r.group; taken = r.taken }

-- packed bytes for words, of which the last begins a raw run of this many more
abbrev pub heads : List ℕ → ℕ → List ℕ
heads [] run = []
heads (w ∷ []) run = 255 ∷ (to_le_bytes w64 w ++ run ∷ [])
heads (w ∷ v ∷ ws) run = (255 ∷ (to_le_bytes w64 w ++ 0 ∷ [])) ++ heads (v ∷ ws) run

-- bytes that go on as the rest does, and how many the rest has
abbrev pub bytes_for : Mode → Rest → List ℕ
bytes_for modes.Plain r = rest_of r.frame
bytes_for modes.Packed r = heads (words_in_order r.frame) r.group.run ++ r.group.part.items

abbrev pub count_for : Mode → Rest → ℕ
count_for modes.Plain r = length (rest_of r.frame)
count_for modes.Packed r = r.taken

-- Words of a frame have come packed, and a part of a group. The table has no fault, with what is laid.
pub record InPacked (limits : Bounds) (r : Rest) : Type 0 where
  pub frame : IsOpen limits r.frame
  pub no_part : r.frame.part.items ≡ []
  pub pending : IsPending (pending_of r.group)
  pub first : 0 < r.group.run → 0 < kept_words r.frame
  pub little : NamesLittle limits (numbers (rest_of r.frame ++ laid (pending_of r.group)))
  pub count : r.taken ≤ 10 * kept_words r.frame + length r.group.part.items

-- a rest without a fault, of which no front is a frame
abbrev pub IsRest : Mode → Bounds → Rest → Type 0
IsRest modes.Plain limits r = IsOpen limits r.frame × (pending_of r.group ≡ nothing)
IsRest modes.Packed limits r = InPacked limits r

-- Nothing has come.
pub record IsBlank (r : Rest) : Type 0 where
  pub frame : IsEmpty r.frame
  pub group : pending_of r.group ≡ nothing
  pub taken : r.taken ≡ 0

-- A packed byte was taken, with the words that it brings.
pub record TakesByte (limits : Bounds) (old : Rest) (x : ℕ) (new : Rest) : Type 0 where
  pub begun : IsBegun limits new.frame
  pub no_part : new.frame.part.items ≡ []
  pub are_words : AreWords (brought (pending_of old.group) x)
  pub words : rest_of new.frame ≡ rest_of old.frame ++ bytes_of (brought (pending_of old.group) x)
  pub group : pending_of new.group ≡ next (pending_of old.group) x
  pub taken : new.taken ≡ old.taken + 1

-- the frame is whole where a group ends; or its table has no fault, with what is laid
abbrev pub IsSound : Bounds → Rest → Type 0
IsSound limits r =
    (IsComplete limits r.frame × (pending_of r.group ≡ nothing))
    ⊎ (IsOpen limits r.frame × NamesLittle limits (numbers (rest_of r.frame ++ laid (pending_of r.group))))

-- a frame ends inside the bytes
abbrev pub EndsInside : Bounds → List ℕ → Type 0
EndsInside limits b = (S : List (List ℕ)) × (front : List ℕ) × (back : List ℕ) × (b ≡ front ++ back) × (0 < length back) × Frame modes.Plain limits S front

-- words that come at once go past the frame, or its table has a fault
abbrev pub IsFaultOfWords : Bounds → List ℕ → FrameFault → Type 0
IsFaultOfWords limits b fault = ((fault ≡ faults.RunPastFrame) × EndsInside limits b) ⊎ IsFaultOf limits (numbers b) fault

-- the fault that shows after a packed byte: a group goes on past the frame; or the table has it, with what is laid
abbrev pub ShowsFault : Bounds → Rest → FrameFault → Type 0
ShowsFault limits r fault =
    ((fault ≡ faults.RunPastFrame) × IsComplete limits r.frame × (0 < length r.group.part.items + r.group.run))
    ⊎ NamesFault limits (numbers (rest_of r.frame ++ laid (pending_of r.group))) fault

-- what is kept stands for the rest b of a stream
abbrev pub KeptFor : Mode → Bounds → Rest → List ℕ → Type 0
KeptFor mode limits r b = Stands mode limits (reading (bytes_for mode r) (count_for mode r)) b

-- the frames of a rest and what follows it were read, up to another rest
abbrev pub Reads : Mode → Bounds → Rest → List ℕ → List (ℕ × List (List ℕ)) → Rest → Type 0
Reads mode limits old piece given new =
    (b : List ℕ) → KeptFor mode limits old b → (rest : List ℕ) × Frames mode limits (b ++ piece) given rest × KeptFor mode limits new rest

-- the same, up to a fault
abbrev pub Refuses : Mode → Bounds → Rest → List ℕ → List (ℕ × List (List ℕ)) → FrameFault → Type 0
Refuses mode limits old piece given fault =
    (b : List ℕ) → KeptFor mode limits old b → (rest : List ℕ) × Frames mode limits (b ++ piece) given rest × HasFault mode limits rest fault
