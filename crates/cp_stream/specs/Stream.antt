-- The messages of a stream, one to each frame, and what is wrong with the rest. (Encoding specification, "Serialization
-- Over a Stream"; rpc.capnp, struct Message.)
use Rattle.std.specs.Prelude.{◌≡◌, ℕ, List, [], ◌∷◌, ◌++◌, length, Some}
use Rattle.cp_words.specs.Limits.{Bounds}
use Rattle.cp_tree.specs.Node.{Node}
use Rattle.cp_reading.specs.Denotes.{Root}
use Rattle.cp_reading.specs.FirstFault.{IsFirstFault}
use Rattle.cp_frame.specs.declared.mode.Mode.{Mode}
use Rattle.cp_frame.specs.Frame.{Frame}
use Rattle.cp_frame.specs.Stream as frames
use Rattle.cp_messages.specs.Says.{Says}
use Rattle.cp_messages.specs.Faults.{message_faults}
use Rattle.cp_rpc.specs.Answers.{first_of}
use Rattle.cp_messages.specs.declared.message.Message.{Message}
use Rattle.cp_stream.specs.declared.fault.Refusal.{Refusal}
use Rattle.cp_stream.specs.declared.fault.Refusal.TheVariants as refusals

-- The segments' root says the message.
pub record Holds (limits : Bounds) (S : List (List ℕ)) (m : Message) : Type 0 where
  pub tree : Node
  pub root : Root S limits tree
  pub says : Says tree m

-- why segments hold no message: they have no root, and the fault is their first in reading order; or the root says none, and
-- the fault is its first
abbrev pub HoldsNone : Bounds → List (List ℕ) → Refusal → Type 0
HoldsNone limits S (refusals.Tree fault) = ((t : Node) → Root S limits t → ⊥) × IsFirstFault S limits fault
HoldsNone limits S (refusals.Schema fault) = (t : Node) × Root S limits t × (first_of (message_faults t) ≡ Some fault)
HoldsNone limits S (refusals.Frame fault) = ⊥
HoldsNone limits S (refusals.Write fault) = ⊥

-- the bytes are a frame that holds the message
abbrev pub IsFrameOf : Mode → Bounds → List ℕ → Message → Type 0
IsFrameOf mode limits b m = (S : List (List ℕ)) × Frame mode limits S b × Holds limits S m

-- the first n bytes are a frame that holds the message
abbrev pub Front : Mode → Bounds → List ℕ → ℕ → Message → Type 0
Front mode limits b n m = (front : List ℕ) × (back : List ℕ) × (b ≡ front ++ back) × (n ≡ length front) × IsFrameOf mode limits front m

-- the stream is frames of these messages, one after another, and then the rest
abbrev pub Messages : Mode → Bounds → List ℕ → List Message → List ℕ → Type 0
Messages mode limits b [] rest = b ≡ rest
Messages mode limits b (m ∷ more) rest = (front : List ℕ) × (back : List ℕ) × (b ≡ front ++ back) × IsFrameOf mode limits front m × Messages mode limits back more rest

-- The stream is frames of these messages, one after another, and then a rest of which no front is one.
pub record Stream (mode : Mode) (limits : Bounds) (b : List ℕ) (ms : List Message) (rest : List ℕ) : Type 0 where
  pub messages : Messages mode limits b ms rest
  pub no_more : (n : ℕ) (m : Message) → Front mode limits rest n m → ⊥

-- the rest of a stream has this fault: one of framing, or it begins with a frame that holds no message
abbrev pub HasFault : Mode → Bounds → List ℕ → Refusal → Type 0
HasFault mode limits b (refusals.Frame fault) = frames.HasFault mode limits b fault
HasFault mode limits b refusal = (S : List (List ℕ)) × (front : List ℕ) × (back : List ℕ) × (b ≡ front ++ back) × Frame mode limits S front × HoldsNone limits S refusal
