-- What a relay keeps, and what its callers see of it. No public clause names these.
use Rattle.std.specs.Prelude.{◌≡◌, ◌⊎◌, ℕ, ◌≤◌, Bool, true, false, List, [], ◌++◌, Option, Some, None, vec_capacity}
use Rattle.std.specs.Global.{Vec}
use Rattle.cp_words.specs.Limits.{Bounds}
use Rattle.cp_frame.specs.Reader as frames
use Rattle.cp_messages.specs.declared.message.Message.{Message}
use Rattle.cp_stream.specs.Stream.{Holds, HoldsNone}
use Rattle.cp_stream.specs.Reader.{IsMemory}
use Rattle.cp_stream.specs.Write.{IsUnwrittenFor}
use Rattle.cp_stream.specs.declared.fault.Refusal.{Refusal}
use Rattle.cp_relay.specs.declared.output.Output.{Output}
use Rattle.cp_relay.specs.declared.output.Output.TheVariants as outputs
use Rattle.cp_relay.specs.declared.fault.RelayFault.{RelayFault}
use Rattle.cp_relay.specs.declared.fault.RelayCause.{RelayCause}
use Rattle.cp_relay.specs.declared.fault.RelayCause.TheVariants as whys
use Rattle.cp_relay.specs.declared.passage.Passage.{Passage}
use Rattle.cp_relay.specs.Relay.{Relay, most_spare, StandsFor, IsSentFor, StopsFor, GivesNext, GivesNone}

-- a relay by its parts
abbrev pub seen : Passage → Option RelayFault → Relay
seen p fault = record { output = p.output; frames = p.frames; kept = p.kept.items; room = vec_capacity p.kept; fault = fault; at = p.at }

-- The stream is read on, within the limits, and what has come of it is some bytes.
pub record IsOpen (p : Passage) : Type 0 where
  pub same_limits : p.frames.limits ≡ p.limits
  pub reading : frames.IsReading p.frames.state
  pub some : (b : List ℕ) × frames.StandsFor p.frames b

-- while nothing is at fault the stream is read on; a fault names the bytes that were let through, and nothing is kept
abbrev pub KeepsUp : Passage → Option RelayFault → Type 0
KeepsUp p None = IsOpen p
KeepsUp p (Some fault) = (fault.at ≡ p.at) × (p.kept.items ≡ [])

-- a buffer that holds no bytes has room for little
abbrev pub IsSmall : Vec ℕ → Type 0
IsSmall buffer = buffer.items ≡ [] → vec_capacity buffer ≤ most_spare

-- memory ran out
abbrev pub IsMemoryFor : RelayCause → Type 0
IsMemoryFor (whys.Refused refusal) = IsMemory refusal
IsMemoryFor whys.Forbidden = ⊥

-- what is kept with a piece in which no frame ends
abbrev pub kept_with : Output → List ℕ → List ℕ → List ℕ
kept_with outputs.AsRead kept piece = kept ++ piece
kept_with (outputs.Anew mode) kept piece = kept

-- Nothing changed but what is kept, and that is this now.
pub record OnlyKeeps (old : Passage) (kept : List ℕ) (new : Passage) : Type 0 where
  pub now : new.kept.items ≡ kept
  pub output : new.output ≡ old.output
  pub limits : new.limits ≡ old.limits
  pub frames : new.frames ≡ old.frames
  pub at : new.at ≡ old.at

-- What goes out for a frame with this message was made. `front` are the frame's bytes that aren't kept.
pub record Makes (old : Passage) (m : Message) (front : List ℕ) (new : Passage) : Type 0 where
  pub sent : List ℕ
  pub sent_for : IsSentFor old.output old.limits (old.kept.items ++ front) m sent
  pub keeps : OnlyKeeps old sent new

-- a message can't be written anew
abbrev pub IsUnwrittenAnew : Output → Bounds → Message → Refusal → Type 0
IsUnwrittenAnew outputs.AsRead limits m refusal = ⊥
IsUnwrittenAnew (outputs.Anew mode) limits m refusal = IsUnwrittenFor limits limits.frame_words 1 m refusal

-- why nothing was made for a message
abbrev pub IsUnmade : Passage → Message → Refusal → Type 0
IsUnmade p m refusal = IsMemory refusal ⊎ IsUnwrittenAnew p.output p.limits m refusal

-- What goes out for a frame of these segments was put after `out`: the visitor let its message go.
pub record PutsFrame {V : Type 0} (says : V → Message → Bool → V → Type 0) (old : Passage) (S : List (List ℕ)) (front : List ℕ) (new : Passage) (before after : V) (out now : List ℕ) : Type 0 where
  pub message : Message
  pub holds : Holds old.limits S message
  pub sent : List ℕ
  pub sent_for : IsSentFor old.output old.limits (old.kept.items ++ front) message sent
  pub goes_out : now ≡ out ++ sent
  pub let_go : says before message true after
  pub keeps : OnlyKeeps old [] new

-- why nothing goes out for a frame of these segments
abbrev pub StopsAtFrame : {V : Type 0} → (V → Message → Bool → V → Type 0) → Passage → List (List ℕ) → V → V → RelayCause → Type 0
StopsAtFrame says p S before after (whys.Refused refusal) =
    IsMemory refusal ⊎ ((after ≡ before) × (HoldsNone p.limits S refusal ⊎ ((m : Message) × Holds p.limits S m × IsUnwrittenAnew p.output p.limits m refusal)))
StopsAtFrame says p S before after whys.Forbidden = (m : Message) × Holds p.limits S m × says before m false after

-- nothing of the piece goes through
abbrev pub Refuses : {V : Type 0} → (V → Message → Bool → V → Type 0) → Relay → List ℕ → V → V → RelayCause → Type 0
Refuses says r piece before after why = (b : List ℕ) → StandsFor r b → StopsFor says r.output r.frames.mode r.frames.limits (b ++ piece) before after why

-- the piece was read up to the end of a frame, whose message went out
abbrev pub PassesNext : {V : Type 0} → (V → Message → Bool → V → Type 0) → Passage → List ℕ → Passage → V → V → List ℕ → List ℕ → List ℕ → Type 0
PassesNext says old piece new before after out now back = GivesNext says (seen old None) piece (seen new None) before after out now back

-- the piece was read, and nothing ends in it
abbrev pub PassesNone : {V : Type 0} → (V → Message → Bool → V → Type 0) → Passage → List ℕ → Passage → V → V → List ℕ → List ℕ → Type 0
PassesNone says old piece new before after out now = GivesNone says (seen old None) piece (seen new None) before after out now
