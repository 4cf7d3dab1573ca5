-- What a reader of messages keeps, and what its callers see of it. No public clause names these.
use Rattle.std.specs.Prelude.{◌≡◌, ◌⊎◌, ℕ, List, [], ◌++◌, length, drop, Option}
use Rattle.std.specs.Io.KnownBytes.{Consumes}
use Rattle.cp_words.specs.Limits.{Bounds}
use Rattle.cp_frame.specs.declared.mode.Mode.{Mode}
use Rattle.cp_frame.specs.declared.fault.FrameFault.{FrameFault}
use Rattle.cp_frame.specs.Reader as frames
use Rattle.cp_frame.specs.Stream.{Frames}
use Rattle.cp_messages.specs.declared.message.Message.{Message}
use Rattle.cp_stream.specs.Stream.{HasFault}
use Rattle.cp_stream.specs.Reader.{Reads, IsMemory, Reader, State, failed, refusing, reading}
use Rattle.cp_stream.specs.declared.fault.Refusal.{Refusal}
use Rattle.cp_stream.specs.declared.fault.Refusal.TheVariants as refusals
use Rattle.cp_stream.specs.declared.status.ReaderStatus.{ReaderStatus}
use Rattle.cp_stream.specs.declared.status.ReaderStatus.TheVariants as statuses
use Rattle.cp_stream.specs.declared.tap.Tap.{Tap}
use Rattle.cp_stream.specs.Write.{Sends}

-- a reader of frames refuses, or reads on, as that of messages does
abbrev pub frames_state : frames.State → State
frames_state frames.failed = failed
frames_state (frames.refusing fault) = refusing (refusals.Frame fault)
frames_state (frames.reading rest taken) = reading rest taken

abbrev pub state_of : ReaderStatus → frames.State → State
state_of statuses.Reading s = frames_state s
state_of (statuses.Refusing refusal) s = refusing refusal
state_of statuses.Failed s = failed

-- a reader by its parts
abbrev pub seen : ReaderStatus → frames.Reader → ℕ → Reader
seen status r at = record { mode = r.mode; limits = r.limits; state = state_of status r.state; at = at }

-- while the stream is read, its frames are read within the same limits
abbrev pub KeepsUp : Bounds → ReaderStatus → frames.Reader → Type 0
KeepsUp limits statuses.Reading r = r.limits ≡ limits
KeepsUp limits (statuses.Refusing refusal) r = Unit {0}
KeepsUp limits statuses.Failed r = Unit {0}

-- The messages are those of these frames, one to each, whatever stream they are read from.
pub record ReadsOf (limits : Bounds) (given : List (ℕ × List (List ℕ))) (ms : List Message) (old new : ℕ) : Type 0 where
  pub each : length ms ≡ length given
  pub reads : (mode : Mode) (b rest : List ℕ) → Frames mode limits b given rest → Reads mode limits b ms rest old new

-- the messages are those of the first of these frames, and the next has the fault
abbrev pub RefusesOf : Bounds → List (ℕ × List (List ℕ)) → List Message → ℕ → ℕ → Refusal → Type 0
RefusesOf limits given ms old new refusal =
    (mode : Mode) (b rest : List ℕ) → Frames mode limits b given rest → (back : List ℕ) × Reads mode limits b ms back old new × HasFault mode limits back refusal

-- The messages are those of the first n of these frames, and the others follow.
pub record ReadsFirst (limits : Bounds) (given : List (ℕ × List (List ℕ))) (n : ℕ) (ms : List Message) (old new : ℕ) : Type 0 where
  pub each : length ms ≡ n
  pub reads : (mode : Mode) (b rest : List ℕ) → Frames mode limits b given rest → (back : List ℕ) × Reads mode limits b ms back old new × Frames mode limits back (drop n given) rest

-- the piece gave frames, and the messages are theirs
abbrev pub ReadsPiece : Bounds → frames.Reader → List ℕ → frames.Reader → List Message → ℕ → ℕ → Type 0
ReadsPiece limits old piece new ms at reached = (given : List (ℕ × List (List ℕ))) × frames.Gives old piece new given × ReadsOf limits given ms at reached

-- the piece gave no frames; or it gave some, and memory ran out, or one of them has the fault
abbrev pub RefusesPiece : Bounds → frames.Reader → List ℕ → frames.Reader → List Message → ℕ → ℕ → Refusal → Type 0
RefusesPiece limits old piece new ms at reached refusal =
    ((fault : FrameFault) × (refusal ≡ refusals.Frame fault) × frames.Reports old piece new fault × (ms ≡ []))
    ⊎ ((given : List (ℕ × List (List ℕ))) × frames.Gives old piece new given × (IsMemory refusal ⊎ RefusesOf limits given ms at reached refusal))

-- One frame is being read: what was read so far is what the reader of frames stands for.
pub record ReadsOn (mode : Mode) (limits : Bounds) (old new : Option (List ℕ)) (failures failed : ℕ) (r : frames.Reader) : Type 0 where
  pub same_mode : r.mode ≡ mode
  pub same_limits : r.limits ≡ limits
  pub reading : frames.IsReading r.state
  pub counted : failed ≡ failures
  pub bytes : List ℕ
  pub consumed : Consumes old new bytes
  pub stands : frames.StandsFor r bytes

-- Bytes are being written: this many of them went out, which the tap counts, and the others are left.
pub record WritesOn {T : Type 0} (contents : T → Option (List ℕ)) (old new : Tap T) (b left : List ℕ) : Type 0 where
  pub sent : List ℕ
  pub splits : b ≡ sent ++ left
  pub sends : Sends contents old new sent
