-- A reader of messages, as its callers see it.
use Rattle.std.specs.Prelude.{◌≡◌, ◌≢◌, ◌⊎◌, ℕ, ◌+◌, ◌-◌, ◌^◌, min, List, [], ◌++◌, length}
use Rattle.cp_words.specs.Limits.{Bounds}
use Rattle.cp_frame.specs.declared.mode.Mode.{Mode}
use Rattle.cp_frame.specs.declared.fault.FrameFault.TheVariants as frames
use Rattle.cp_frame.specs.Stream.{Open}
use Rattle.cp_frame.specs.Reader.{GoesOnAs}
use Rattle.cp_messages.specs.declared.fault.SchemaFault.TheVariants as schemas
use Rattle.cp_messages.specs.declared.message.Message.{Message}
use Rattle.cp_stream.specs.declared.fault.Refusal.{Refusal}
use Rattle.cp_stream.specs.declared.fault.Refusal.TheVariants as refusals
use Rattle.cp_stream.specs.declared.fault.StreamFault.{StreamFault}
use Rattle.cp_stream.specs.declared.fault.StreamFault.TheVariants as faults
use Rattle.cp_stream.specs.Stream.{Messages, HasFault}

-- A fault was reported; or one was met after messages and is reported next; or the stream is read on, of which a rest of this many bytes goes on as these do.
pub data State : Type 0 where
  failed : State
  refusing : Refusal → State
  reading : List ℕ → ℕ → State

-- The form and the limits that it was made for, its state, and how many bytes the frames of the messages that it gave took.
pub record Reader : Type 0 where
  pub mode : Mode
  pub limits : Bounds
  pub state : State
  pub at : ℕ

-- a state stands for a rest: it goes on as the rest does, and has come open so far; or the rest has the fault that is reported next
abbrev pub Stands : Mode → Bounds → State → List ℕ → Type 0
Stands mode limits failed b = ⊥
Stands mode limits (refusing refusal) b = HasFault mode limits b refusal
Stands mode limits (reading rest taken) b = GoesOnAs mode rest b × (taken ≡ length b) × Open mode limits b

-- The reader stands for a stream of which nothing but the rest b is still to be reported.
abbrev pub StandsFor : Reader → List ℕ → Type 0
StandsFor r b = Stands r.mode r.limits r.state b

-- the stream is read on
abbrev pub IsReading : State → Type 0
IsReading failed = ⊥
IsReading (refusing refusal) = ⊥
IsReading (reading rest taken) = Unit {0}

-- a fault is kept
abbrev pub IsRefusing : State → Type 0
IsRefusing failed = ⊥
IsRefusing (refusing refusal) = Unit {0}
IsRefusing (reading rest taken) = ⊥

-- a count of bytes goes from old to new by n, and stays at the greatest u64
abbrev pub CountsOn : ℕ → ℕ → ℕ → Type 0
CountsOn old n new = new ≡ min (old + n) (2 ^ 64 - 1)

-- The stream is these messages and then the rest, and the count goes on by the bytes of their frames.
pub record Reads (mode : Mode) (limits : Bounds) (b : List ℕ) (ms : List Message) (rest : List ℕ) (old new : ℕ) : Type 0 where
  pub messages : Messages mode limits b ms rest
  pub taken : ℕ
  pub splits : length b ≡ taken + length rest
  pub counts : CountsOn old taken new

-- The piece was read: what stood for b gave the messages of b and the piece, and stands for their rest. It keeps a fault of the rest only after messages.
pub record Gives (old : Reader) (piece : List ℕ) (new : Reader) (given : List Message) : Type 0 where
  pub was_reading : IsReading old.state
  pub same_mode : new.mode ≡ old.mode
  pub same_limits : new.limits ≡ old.limits
  pub messages : (b : List ℕ) → StandsFor old b → (rest : List ℕ) × Reads old.mode old.limits (b ++ piece) given rest old.at new.at × StandsFor new rest
  pub kept : IsRefusing new.state → given ≢ []

-- memory ran out: for frames and vectors of messages, or for a message's trees and texts
abbrev pub IsMemory : Refusal → Type 0
IsMemory refusal = (refusal ≡ refusals.Frame frames.OutOfMemory) ⊎ (refusal ≡ refusals.Schema schemas.OutOfMemory)

-- why a fault is reported for a piece: it was reported before or kept, memory ran out, or the rest has it
abbrev pub IsReportedFor : Reader → List ℕ → State → Refusal → Type 0
IsReportedFor r piece failed refusal = refusal ≡ refusals.Frame frames.Failed
IsReportedFor r piece (refusing kept) refusal = refusal ≡ kept
IsReportedFor r piece (reading rest taken) refusal = IsMemory refusal ⊎ ((b : List ℕ) → StandsFor r b → HasFault r.mode r.limits (b ++ piece) refusal)

-- the fault is this refusal, and names the bytes of the frames whose messages were given
abbrev pub IsAt : ℕ → (Refusal → Type 0) → StreamFault → Type 0
IsAt at why (faults.Refused place refusal) = (place ≡ at) × why refusal
IsAt at why (faults.Device error) = ⊥

-- A fault was reported, and the reader has failed.
pub record Reports (old : Reader) (piece : List ℕ) (new : Reader) (fault : StreamFault) : Type 0 where
  pub reported : IsAt old.at (IsReportedFor old piece old.state) fault
  pub failed : new.state ≡ failed
  pub same : new.at ≡ old.at

-- why a fault is reported at the end: it was reported before or kept, or the stream ends inside a frame
abbrev pub IsReportedAtEnd : Reader → State → Refusal → Type 0
IsReportedAtEnd r failed refusal = refusal ≡ refusals.Frame frames.Failed
IsReportedAtEnd r (refusing kept) refusal = refusal ≡ kept
IsReportedAtEnd r (reading rest taken) refusal = (refusal ≡ refusals.Frame frames.Truncated) × ((b : List ℕ) → StandsFor r b → b ≢ [])

-- The stream ended after a message, and the reader is as it was.
pub record EndsWell (old new : Reader) : Type 0 where
  pub was_reading : IsReading old.state
  pub same : new ≡ old
  pub nothing : (b : List ℕ) → StandsFor old b → b ≡ []

-- The end reported a fault, and the reader has failed.
pub record ReportsAtEnd (old new : Reader) (fault : StreamFault) : Type 0 where
  pub reported : IsAt old.at (IsReportedAtEnd old old.state) fault
  pub failed : new.state ≡ failed
  pub same : new.at ≡ old.at

-- a reader of which nothing has come
abbrev pub new_reader : Mode → Bounds → Reader
new_reader mode limits = record { mode = mode; limits = limits; state = reading [] 0; at = 0 }
