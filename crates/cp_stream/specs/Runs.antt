-- A stream of messages has one reading, and it doesn't matter in which pieces it comes.
use Rattle.std.specs.Prelude.{◌≡◌, ℕ, ◌^◌, ◌<◌, ◌≤◌, List, [], ◌∷◌, ◌++◌, length}
use Rattle.cp_words.specs.Limits.{Bounds, IsAllowed}
use Rattle.cp_tree.specs.Node.{Node, IsStruct, depth, cost}
use Rattle.cp_tree.specs.Shaped.{Shaped}
use Rattle.cp_reading.specs.Denotes.{Root}
use Rattle.cp_writing.specs.Layout.{Layout, Capacity}
use Rattle.cp_frame.specs.declared.mode.Mode.{Mode}
use Rattle.cp_frame.specs.Runs.{joined}
use Rattle.cp_messages.specs.declared.message.Message.{Message}
use Rattle.cp_stream.specs.Stream.{Front, Stream, HasFault}
use Rattle.cp_stream.specs.Write.{IsWrittenAs}
use Rattle.cp_stream.specs.Reader.{Reader, StandsFor, IsReading, IsMemory, Reads, Gives, Reports}
use Rattle.cp_stream.specs.declared.fault.Refusal.{Refusal}
use Rattle.cp_stream.specs.declared.fault.StreamFault.TheVariants as faults

-- at most one number of bytes and one message are the front of a stream
abbrev pub HasOneFront : Mode → Type 0
HasOneFront mode = (limits : Bounds) (b : List ℕ) (n count : ℕ) (m other : Message) → Front mode limits b n m → Front mode limits b count other → (n ≡ count) × (m ≡ other)

-- bytes are at most one stream: one list of messages, and then one rest
abbrev pub IsOneStream : Mode → Type 0
IsOneStream mode = (limits : Bounds) (b : List ℕ) (ms others : List Message) (rest other : List ℕ)
    → Stream mode limits b ms rest → Stream mode limits b others other → (ms ≡ others) × (rest ≡ other)

-- The pieces were fed one after another, and each was read: together they gave these messages.
abbrev pub Fed : Reader → List (List ℕ) → List Message → Reader → Type 0
Fed old [] given new = (given ≡ []) × (new ≡ old)
Fed old (piece ∷ pieces) given new =
    (first : List Message) × (later : List Message) × (mid : Reader) × Gives old piece mid first × Fed mid pieces later new × (given ≡ first ++ later)

-- what pieces gave are the messages of the stream that they make, and the reader counts the bytes of their frames
abbrev pub GivesStream : Type 0
GivesStream = (old new : Reader) (pieces : List (List ℕ)) (given : List Message) (b : List ℕ)
    → old.at < 2 ^ 64 → StandsFor old b → Fed old pieces given new
    → (rest : List ℕ) × Stream old.mode old.limits (b ++ joined pieces) given rest × Reads old.mode old.limits (b ++ joined pieces) given rest old.at new.at × StandsFor new rest

-- a fault that is reported for a piece, allocation failure aside, is one of the rest of the stream that all pieces make
abbrev pub ReportsRest : Type 0
ReportsRest = (old mid new : Reader) (pieces : List (List ℕ)) (piece : List ℕ) (given : List Message) (at : ℕ) (refusal : Refusal) (b : List ℕ)
    → old.at < 2 ^ 64 → StandsFor old b → Fed old pieces given mid → IsReading mid.state → Reports mid piece new (faults.Refused at refusal) → ¬ (IsMemory refusal)
    → (rest : List ℕ) × Stream old.mode old.limits (b ++ (joined pieces ++ piece)) given rest × HasFault old.mode old.limits rest refusal

-- however a stream comes in pieces, the messages are the same, and so is the number of their bytes; and the readers stand for the same rest
abbrev pub GivesSame : Type 0
GivesSame = (old new other : Reader) (pieces others : List (List ℕ)) (given gotten : List Message) (b : List ℕ)
    → old.at < 2 ^ 64 → StandsFor old b → Fed old pieces given new → Fed old others gotten other → joined pieces ≡ joined others
    → (given ≡ gotten) × (new.at ≡ other.at) × (rest : List ℕ) × StandsFor new rest × StandsFor other rest

-- the segments that a struct is laid into are read as that struct, where it is within the limits
abbrev pub ReadsLayouts : Type 0
ReadsLayouts = (S : List (List ℕ)) (capacity : Capacity) (limits : Bounds) (t : Node)
    → Shaped t → IsStruct t → depth t ≤ limits.nesting → cost t ≤ limits.traversal → Layout S capacity t → Root S limits t

-- a message that is written is read back, whatever follows it
abbrev pub ReadsWritten : Type 0
ReadsWritten = (mode : Mode) (limits : Bounds) (words segments : ℕ) (m : Message) (b rest : List ℕ)
    → IsAllowed limits → IsWrittenAs mode limits words segments m b → Front mode limits (b ++ rest) (length b) m
