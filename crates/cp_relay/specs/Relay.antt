-- What goes through a relay, and what it lets through no more.
use Rattle.std.specs.Prelude.{◌≡◌, ◌≢◌, ◌⊎◌, ℕ, ◌+◌, ◌^◌, ◌<◌, ◌≤◌, Bool, true, false, List, [], ◌∷◌, ◌++◌, Option, Some, None, length}
use Rattle.cp_words.specs.Limits.{Bounds}
use Rattle.cp_frame.specs.declared.mode.Mode.{Mode}
use Rattle.cp_frame.specs.declared.fault.FrameFault.TheVariants as faults
use Rattle.cp_frame.specs.Reader as frames
use Rattle.cp_messages.specs.declared.message.Message.{Message}
use Rattle.cp_stream.specs.Stream.{IsFrameOf, Front, HasFault}
use Rattle.cp_stream.specs.Reader.{CountsOn, IsMemory}
use Rattle.cp_stream.specs.Write.{IsWrittenAs, IsUnwrittenFor}
use Rattle.cp_stream.specs.declared.fault.Refusal.{Refusal}
use Rattle.cp_stream.specs.declared.fault.Refusal.TheVariants as refusals
use Rattle.cp_relay.specs.declared.output.Output.{Output}
use Rattle.cp_relay.specs.declared.output.Output.TheVariants as outputs
use Rattle.cp_relay.specs.declared.fault.RelayFault.{RelayFault}
use Rattle.cp_relay.specs.declared.fault.RelayCause.{RelayCause}
use Rattle.cp_relay.specs.declared.fault.RelayCause.TheVariants as whys

-- A relay as its callers see it: what goes out for a message, what reads the frames, the bytes of the open frame that are kept to go out, how many their
-- buffer has room for, why nothing more is let through, and how many bytes the frames took that were.
pub record Relay : Type 0 where
  pub output : Output
  pub frames : frames.Reader
  pub kept : List ℕ
  pub room : ℕ
  pub fault : Option RelayFault
  pub at : ℕ

-- the most that a buffer has room for that is kept for later frames: 64 KiB
abbrev pub most_spare : ℕ
most_spare = 65536

-- nothing is said of what a visitor says
abbrev pub says_nothing : {V : Type 0} → V → Message → Bool → V → Type 0
says_nothing old m may new = Unit {0}

-- what is kept to go out is all that has come of the open frame, or nothing
abbrev pub IsKept : Output → List ℕ → List ℕ → Type 0
IsKept outputs.AsRead kept b = kept ≡ b
IsKept (outputs.Anew mode) kept b = kept ≡ []

-- The relay goes on, and of the stream only this has come that was neither let through nor refused. Its count is a u64.
pub record StandsFor (r : Relay) (b : List ℕ) : Type 0 where
  pub goes_on : r.fault ≡ None
  pub reads : frames.StandsFor r.frames b
  pub keeps : IsKept r.output r.kept b
  pub counted : r.at < 2 ^ 64

-- what goes out for a frame: its own bytes, or what its message is written as in one segment
abbrev pub IsSentFor : Output → Bounds → List ℕ → Message → List ℕ → Type 0
IsSentFor outputs.AsRead limits frame m sent = sent ≡ frame
IsSentFor (outputs.Anew mode) limits frame m sent = IsWrittenAs mode limits limits.frame_words 1 m sent

-- the stream is frames of these messages, in order, and then the rest; and this goes out for them, each once
abbrev pub Passes : Mode → Output → Bounds → List ℕ → List Message → List ℕ → List ℕ → Type 0
Passes mode output limits b [] sent rest = (b ≡ rest) × (sent ≡ [])
Passes mode output limits b (m ∷ more) sent rest =
    (front : List ℕ) × (back : List ℕ) × (first : List ℕ) × (later : List ℕ) × (b ≡ front ++ back) × (sent ≡ first ++ later)
    × IsFrameOf mode limits front m × IsSentFor output limits front m first × Passes mode output limits back more later rest

-- the visitor let these messages go, in order
abbrev pub Lets : {V : Type 0} → (V → Message → Bool → V → Type 0) → V → List Message → V → Type 0
Lets says old [] new = new ≡ old
Lets {V} says old (m ∷ more) new = (mid : V) × says old m true mid × Lets says mid more new

-- A relay read this piece: the stream that it stood for and the piece are frames of messages that went out, and a rest. The visitor let them go, and their frames' bytes are counted.
pub record LetsThrough {V : Type 0} (says : V → Message → Bool → V → Type 0) (old : Relay) (piece : List ℕ) (new : Relay) (before after : V) (out now b rest : List ℕ) : Type 0 where
  pub messages : List Message
  pub sent : List ℕ
  pub passes : Passes old.frames.mode old.output old.frames.limits (b ++ piece) messages sent rest
  pub goes_out : now ≡ out ++ sent
  pub let_go : Lets says before messages after
  pub taken : ℕ
  pub splits : length (b ++ piece) ≡ taken + length rest
  pub counts : CountsOn old.at taken new.at

-- The stream is still read in the same form and within the same limits, and the same goes out for a message.
pub record IsSameStream (old new : Relay) : Type 0 where
  pub output : new.output ≡ old.output
  pub mode : new.frames.mode ≡ old.frames.mode
  pub limits : new.frames.limits ≡ old.frames.limits

-- the rest begins with a frame of a message that can't be written anew
abbrev pub IsUnwritten : Output → Mode → Bounds → List ℕ → Refusal → Type 0
IsUnwritten outputs.AsRead mode limits rest refusal = ⊥
IsUnwritten (outputs.Anew to) mode limits rest refusal = (n : ℕ) × (m : Message) × Front mode limits rest n m × IsUnwrittenFor limits limits.frame_words 1 m refusal

-- why no more of a rest goes through: memory ran out; its bytes are refused, or its first message can't be written anew, and the visitor wasn't asked; or the visitor forbids its first message
abbrev pub StopsFor : {V : Type 0} → (V → Message → Bool → V → Type 0) → Output → Mode → Bounds → List ℕ → V → V → RelayCause → Type 0
StopsFor says output mode limits rest before after (whys.Refused refusal) =
    IsMemory refusal ⊎ ((after ≡ before) × (HasFault mode limits rest refusal ⊎ IsUnwritten output mode limits rest refusal))
StopsFor says output mode limits rest before after whys.Forbidden = (n : ℕ) × (m : Message) × Front mode limits rest n m × says before m false after

-- The relay lets nothing more through, for this fault, which names the bytes of the frames before it.
pub record HasStopped (r : Relay) (fault : RelayFault) : Type 0 where
  pub says_so : r.fault ≡ Some fault
  pub place : fault.at ≡ r.at

-- A relay that had stopped says so again, and nothing changes.
pub record Repeats {V : Type 0} (old new : Relay) (before after : V) (out now : List ℕ) (fault : RelayFault) : Type 0 where
  pub said : old.fault ≡ Some fault
  pub same : new ≡ old
  pub unasked : after ≡ before
  pub nothing : now ≡ out

-- The piece was read up to the end of a frame, whose message went out, after what was there.
pub record GivesNext {V : Type 0} (says : V → Message → Bool → V → Type 0) (old : Relay) (piece : List ℕ) (new : Relay) (before after : V) (out now back : List ℕ) : Type 0 where
  pub front : List ℕ
  pub whole : piece ≡ front ++ back
  pub shorter : length back < length piece
  pub sent : List ℕ
  pub goes_out : now ≡ out ++ sent
  pub went_on : old.fault ≡ None
  pub goes_on : new.fault ≡ None
  pub same_stream : IsSameStream old new
  pub gives : (b : List ℕ) → StandsFor old b → LetsThrough says old front new before after out now b [] × StandsFor new []

-- The piece was read, and nothing ends in it.
pub record GivesNone {V : Type 0} (says : V → Message → Bool → V → Type 0) (old : Relay) (piece : List ℕ) (new : Relay) (before after : V) (out now : List ℕ) : Type 0 where
  pub nothing : now ≡ out
  pub went_on : old.fault ≡ None
  pub goes_on : new.fault ≡ None
  pub same_stream : IsSameStream old new
  pub gives : (b : List ℕ) → StandsFor old b → LetsThrough says old piece new before after out now b (b ++ piece) × StandsFor new (b ++ piece)

-- The piece was read, and what is let through of it went out.
pub record Gives {V : Type 0} (says : V → Message → Bool → V → Type 0) (old : Relay) (piece : List ℕ) (new : Relay) (before after : V) (out now : List ℕ) : Type 0 where
  pub went_on : old.fault ≡ None
  pub goes_on : new.fault ≡ None
  pub same_stream : IsSameStream old new
  pub gives : (b : List ℕ) → StandsFor old b → (rest : List ℕ) × LetsThrough says old piece new before after out now b rest × StandsFor new rest

-- What is let through of the piece went out, and a rest of it has the fault.
pub record Stops {V : Type 0} (says : V → Message → Bool → V → Type 0) (old : Relay) (piece : List ℕ) (new : Relay) (before after : V) (out now : List ℕ) (fault : RelayFault) : Type 0 where
  pub went_on : old.fault ≡ None
  pub stopped : HasStopped new fault
  pub gives : (b : List ℕ) → StandsFor old b → (rest : List ℕ) × (mid : V) × LetsThrough says old piece new before mid out now b rest × StopsFor says old.output old.frames.mode old.frames.limits rest mid after fault.why

-- All that had come with the piece has the fault: no message of it went out.
pub record StopsNext {V : Type 0} (says : V → Message → Bool → V → Type 0) (old : Relay) (piece : List ℕ) (new : Relay) (before after : V) (fault : RelayFault) : Type 0 where
  pub went_on : old.fault ≡ None
  pub stopped : HasStopped new fault
  pub same : new.at ≡ old.at
  pub refused : (b : List ℕ) → StandsFor old b → StopsFor says old.output old.frames.mode old.frames.limits (b ++ piece) before after fault.why

-- so it did, or it had stopped before and says so again, and nothing changes
abbrev pub StopsNextAt : {V : Type 0} → (V → Message → Bool → V → Type 0) → Relay → List ℕ → Relay → V → V → RelayFault → Type 0
StopsNextAt says old piece new before after fault = StopsNext says old piece new before after fault ⊎ ((old.fault ≡ Some fault) × (new ≡ old) × (after ≡ before))

-- The relay stopped in the piece, or had stopped before and says so again.
abbrev pub StopsAt : {V : Type 0} → (V → Message → Bool → V → Type 0) → Relay → List ℕ → Relay → V → V → List ℕ → List ℕ → RelayFault → Type 0
StopsAt says old piece new before after out now fault = Stops says old piece new before after out now fault ⊎ Repeats old new before after out now fault

-- The stream ended after a message, and the relay is as it was.
pub record EndsWell (old new : Relay) : Type 0 where
  pub went_on : old.fault ≡ None
  pub same : new ≡ old
  pub nothing : (b : List ℕ) → StandsFor old b → b ≡ []

-- The stream ended inside a frame (F3).
pub record EndsInside (old new : Relay) (fault : RelayFault) : Type 0 where
  pub went_on : old.fault ≡ None
  pub stopped : HasStopped new fault
  pub same : new.at ≡ old.at
  pub truncated : fault.why ≡ whys.Refused (refusals.Frame faults.Truncated)
  pub inside : (b : List ℕ) → StandsFor old b → b ≢ []

-- Of the bytes that go out as they were read it keeps no more than have come of the open frame, and what its reader keeps is little. The buffer that is
-- kept for later frames is small, whatever frames came.
pub record HoldsLittle (r : Relay) : Type 0 where
  pub reader : frames.KeepsLittle r.frames
  pub kept : (b : List ℕ) → StandsFor r b → length r.kept ≤ length b
  pub none : r.fault ≢ None → r.kept ≡ []
  pub room : r.kept ≡ [] → r.room ≤ most_spare

-- a relay to which nothing has come
abbrev pub new_relay : Mode → Output → Bounds → Relay
new_relay mode output limits = record { output = output; frames = frames.new_reader mode limits; kept = []; room = 0; fault = None; at = 0 }
