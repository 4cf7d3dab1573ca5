-- One tree as one frame: how it is written and read. (Encoding specification, "Messages", "Serialization Over a Stream".)
use Rattle.std.specs.Prelude.{◌≡◌, ◌≢◌, ◌⊎◌, ℕ, ◌≤◌, List, [], ◌∷◌, ◌++◌, Option, Some, None, Result, Ok, Err, length}
use Rattle.std.specs.Io.KnownBytes.{Consumes}
use Rattle.cp_words.specs.Limits.{Bounds}
use Rattle.cp_tree.specs.Node.{Node}
use Rattle.cp_reading.specs.Denotes.{Root}
use Rattle.cp_reading.specs.FirstFault.{IsFirstFault}
use Rattle.cp_reading.specs.declared.fault.TreeFault.{TreeFault}
use Rattle.cp_packed.specs.Words.{AreBytes}
use Rattle.cp_writing.specs.Layout.{Built}
use Rattle.cp_writing.specs.Writes.{FitsIn, IsWriteFaultOf}
use Rattle.cp_frame.specs.declared.mode.Mode.{Mode}
use Rattle.cp_frame.specs.declared.fault.FrameFault.{FrameFault}
use Rattle.cp_frame.specs.declared.fault.FrameFault.TheVariants as frames
use Rattle.cp_frame.specs.Stream as streams
use Rattle.cp_frame.specs.Frame.{Frame, Written}
use Rattle.cp_stream.specs.declared.fault.Refusal.{Refusal}
use Rattle.cp_stream.specs.declared.fault.Refusal.TheVariants as refusals
use Rattle.cp_stream.specs.declared.fault.StreamFault.{StreamFault}
use Rattle.cp_stream.specs.declared.fault.StreamFault.TheVariants as faults
use Rattle.cp_stream.specs.declared.tap.Tap.{Tap}
use Rattle.cp_stream.specs.Reader.{IsMemory}
use Rattle.cp_stream.specs.Read.{ReadsAll, RefusesFrame, GivesOnly, GivesNone, ReportsOnly}
use Rattle.cp_stream.specs.Write.{Sends, Breaks}

-- These words are the one segment that a tree is laid out in, within the limits.
pub record IsLaidOutAs (limits : Bounds) (t : Node) (root : List ℕ) : Type 0 where
  pub built : Built t root
  pub fits : FitsIn limits t
  pub small : length root ≤ limits.frame_words

-- The bytes are the frame of the segment that a tree is laid out in.
pub record IsWrittenAs (mode : Mode) (limits : Bounds) (t : Node) (b : List ℕ) : Type 0 where
  pub root : List ℕ
  pub laid : IsLaidOutAs limits t root
  pub written : Written mode limits (root ∷ []) b

-- Why a tree isn't written: it isn't laid out within the limits; or memory ran out for the frame.
abbrev pub IsUnwrittenFor : Bounds → Node → Refusal → Type 0
IsUnwrittenFor limits t (refusals.Write fault) = IsWriteFaultOf limits (record { words = limits.frame_words; segments = 1 }) t fault
IsUnwrittenFor limits t (refusals.Frame fault) = fault ≡ frames.OutOfMemory
IsUnwrittenFor limits t other = ⊥

-- the tree went out as a frame
abbrev pub IsSent : {T : Type 0} → (T → Option (List ℕ)) → Mode → Bounds → Node → Tap T → Tap T → Type 0
IsSent contents mode limits t old new = (b : List ℕ) × IsWrittenAs mode limits t b × Sends contents old new b

-- A fault is reported at 0, and nothing was written; or the writer failed while the frame went out.
abbrev pub IsCutShort : {T : Type 0} → (T → Option (List ℕ)) → Mode → Bounds → Node → Tap T → Tap T → StreamFault → Type 0
IsCutShort contents mode limits t old new (faults.Refused at refusal) = (at ≡ 0) × (new ≡ old) × IsUnwrittenFor limits t refusal
IsCutShort contents mode limits t old new (faults.Device error) = (b : List ℕ) × IsWrittenAs mode limits t b × Breaks contents old new b

-- one frame's bytes were read, and its root is the tree; or none, at the end of the reader's bytes
abbrev pub ReadsTree : Mode → Bounds → Option (List ℕ) → Option (List ℕ) → Option Node → Type 0
ReadsTree mode limits old new (Some t) = (b : List ℕ) × Consumes old new b × (S : List (List ℕ)) × Frame mode limits S b × Root S limits t
ReadsTree mode limits old new None = ReadsAll old new []

-- why segments give no root: memory ran out, or the root has the fault
abbrev pub IsNoRoot : Bounds → List (List ℕ) → Refusal → Type 0
IsNoRoot limits S (refusals.Frame fault) = fault ≡ frames.OutOfMemory
IsNoRoot limits S (refusals.Tree fault) = IsFirstFault S limits fault
IsNoRoot limits S other = ⊥

-- the refusal is one of framing, or the bytes are a frame whose root has the fault; or memory ran out
abbrev pub RefusesTree : Mode → Bounds → Option (List ℕ) → List ℕ → Refusal → Type 0
RefusesTree mode limits new b (refusals.Frame fault) = (fault ≡ frames.OutOfMemory) ⊎ RefusesFrame mode limits new b (refusals.Frame fault)
RefusesTree mode limits new b (refusals.Tree fault) = (S : List (List ℕ)) × Frame mode limits S b × IsFirstFault S limits fault
RefusesTree mode limits new b other = ⊥

-- the root that was given is this tree; or memory ran out
abbrev pub IsThe : Node → Result Node Refusal → Type 0
IsThe t (Ok root) = root ≡ t
IsThe t (Err refusal) = IsMemory refusal

-- no root was given, and the refusal is the root's fault; or memory ran out
abbrev pub IsRefusedFor : TreeFault → Result Node Refusal → Type 0
IsRefusedFor fault (Ok root) = ⊥
IsRefusedFor fault (Err refusal) = IsMemory refusal ⊎ (refusal ≡ refusals.Tree fault)

-- the bytes begin with this frame
abbrev pub BeginsWith : Mode → Bounds → List ℕ → List (List ℕ) → List ℕ → Type 0
BeginsWith mode limits bytes S front = Frame mode limits S front × (back : List ℕ) × (bytes ≡ front ++ back)

-- What is read of a device is what its bytes say: the root of a frame that they begin with, or its first fault; nothing where
-- there are none; F3 where they end inside a frame; else their fault.
pub record OnlyTree (mode : Mode) (limits : Bounds) (bytes : List ℕ) (old new : Option (List ℕ)) (result : Result (Option Node) StreamFault) : Type 0 where
  pub tree : (S : List (List ℕ)) (front : List ℕ) (t : Node) → BeginsWith mode limits bytes S front → Root S limits t → GivesOnly old new t front result
  pub rootless : (S : List (List ℕ)) (front : List ℕ) (fault : TreeFault) → BeginsWith mode limits bytes S front → IsFirstFault S limits fault
      → ReportsOnly (λ r. r ≡ refusals.Tree fault) result
  pub end : bytes ≡ [] → GivesNone result
  pub inside : bytes ≢ [] → streams.Open mode limits bytes → ReportsOnly (λ r. r ≡ refusals.Frame frames.Truncated) result
  pub fault : (fault : FrameFault) → streams.HasFault mode limits bytes fault → ReportsOnly (λ r. r ≡ refusals.Frame fault) result

-- bytes that are known leave one answer
abbrev pub ReadsOnly : Mode → Bounds → Option (List ℕ) → Option (List ℕ) → Result (Option Node) StreamFault → Type 0
ReadsOnly mode limits old new result = (bytes : List ℕ) → AreBytes bytes → old ≡ Some bytes → OnlyTree mode limits bytes old new result
