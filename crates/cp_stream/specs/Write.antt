-- What is written of a message, and why it isn't.
use Rattle.std.specs.Prelude.{◌≡◌, ◌≢◌, ◌⊎◌, ℕ, ◌+◌, ◌%◌, ◌^◌, ◌≤◌, List, [], ◌++◌, Option, length, map, sum}
use Rattle.std.specs.Io.KnownBytes.{Appends}
use Rattle.cp_words.specs.Limits.{Bounds}
use Rattle.cp_writing.specs.Layout.{Layout}
use Rattle.cp_tree.specs.Shaped.{Shaped}
use Rattle.cp_tree.specs.declared.fault.WriteFault.{WriteFault}
use Rattle.cp_writing.specs.Writes.{FitsIn, IsWriteFaultOf}
use Rattle.cp_frame.specs.declared.mode.Mode.{Mode}
use Rattle.cp_frame.specs.declared.fault.FrameFault.TheVariants as frames
use Rattle.cp_frame.specs.Frame.{Written}
use Rattle.cp_messages.specs.Written.{message_written}
use Rattle.cp_messages.specs.Refused.{IsRefusalOf}
use Rattle.cp_messages.specs.Says.{Says}
use Rattle.cp_messages.specs.declared.message.Message.{Message}
use Rattle.cp_stream.specs.declared.fault.Refusal.{Refusal}
use Rattle.cp_stream.specs.declared.fault.Refusal.TheVariants as refusals
use Rattle.cp_stream.specs.declared.fault.StreamFault.{StreamFault}
use Rattle.cp_stream.specs.declared.fault.StreamFault.TheVariants as faults
use Rattle.cp_stream.specs.declared.tap.Tap.{Tap}
use Rattle.cp_stream.specs.Tap.{inner_of, failures_of, bytes_of}
use Rattle.cp_stream.specs.Read.{FailedOnce}

-- These are the segments that a message is laid out in, each of at most this many words, and at most this many of them; 0 words count as 1. Its tree says it, a message can hold the tree, and the tree and its layout are within the limits.
pub record IsLaidOutAs (limits : Bounds) (words segments : ℕ) (m : Message) (S : List (List ℕ)) : Type 0 where
  pub says : Says (message_written m) m
  pub shaped : Shaped (message_written m)
  pub fits : FitsIn limits (message_written m)
  pub layout : Layout S (record { words = words; segments = segments }) (message_written m)
  pub few : length S ≤ limits.segments
  pub small : sum (map length S) ≤ limits.frame_words

-- Why a message isn't laid out: it has a list that no message can hold; or its tree, which a message can hold, isn't laid out within the limits.
abbrev pub IsNotLaidOut : Bounds → ℕ → ℕ → Message → WriteFault → Type 0
IsNotLaidOut limits words segments m fault = IsRefusalOf m fault ⊎ (Shaped (message_written m) × IsWriteFaultOf limits (record { words = words; segments = segments }) (message_written m) fault)

-- The bytes are the frame of the segments that a message is laid out in.
pub record IsWrittenAs (mode : Mode) (limits : Bounds) (words segments : ℕ) (m : Message) (b : List ℕ) : Type 0 where
  pub lists : List (List ℕ)
  pub laid : IsLaidOutAs limits words segments m lists
  pub written : Written mode limits lists b

-- the frame that a message is written as comes after these bytes
abbrev pub IsPut : Mode → Bounds → ℕ → ℕ → Message → List ℕ → List ℕ → Type 0
IsPut mode limits words segments m old new = (b : List ℕ) × IsWrittenAs mode limits words segments m b × (new ≡ old ++ b)

-- These bytes went out, and the tap counts them, which goes on at 0 after the greatest u64.
pub record Passes {T : Type 0} (contents : T → Option (List ℕ)) (old new : Tap T) (b : List ℕ) : Type 0 where
  pub appends : Appends (contents (inner_of old)) (contents (inner_of new)) b
  pub counts : bytes_of new % 2 ^ 64 ≡ (bytes_of old + length b) % 2 ^ 64

-- these bytes went out, and no call failed
abbrev pub Sends : {T : Type 0} → (T → Option (List ℕ)) → Tap T → Tap T → List ℕ → Type 0
Sends contents old new b = Passes contents old new b × (failures_of new ≡ failures_of old)

-- One call of the writer failed, as the tap counts, and what went out of these bytes is a beginning that lacks some.
pub record Breaks {T : Type 0} (contents : T → Option (List ℕ)) (old new : Tap T) (b : List ℕ) : Type 0 where
  pub sent : List ℕ
  pub left : List ℕ
  pub splits : b ≡ sent ++ left
  pub some : left ≢ []
  pub passes : Passes contents old new sent
  pub failed : FailedOnce (failures_of old) (failures_of new)

-- the message went out as a frame, in segments of at most this many words, and at most this many of them
abbrev pub IsSent : {T : Type 0} → (T → Option (List ℕ)) → Mode → Bounds → ℕ → ℕ → Message → Tap T → Tap T → Type 0
IsSent contents mode limits words segments m old new = (b : List ℕ) × IsWrittenAs mode limits words segments m b × Sends contents old new b

-- Why a message isn't written: it isn't laid out; or memory ran out for the frame.
abbrev pub IsUnwrittenFor : Bounds → ℕ → ℕ → Message → Refusal → Type 0
IsUnwrittenFor limits words segments m (refusals.Write fault) = IsNotLaidOut limits words segments m fault
IsUnwrittenFor limits words segments m (refusals.Frame fault) = (fault ≡ frames.OutOfMemory) × (S : List (List ℕ)) × IsLaidOutAs limits words segments m S
IsUnwrittenFor limits words segments m other = ⊥

-- A fault is reported at 0, and nothing was written; or the writer failed while the frame went out.
abbrev pub IsCutShort : {T : Type 0} → (T → Option (List ℕ)) → Mode → Bounds → ℕ → ℕ → Message → Tap T → Tap T → StreamFault → Type 0
IsCutShort contents mode limits words segments m old new (faults.Refused at refusal) = (at ≡ 0) × (new ≡ old) × IsUnwrittenFor limits words segments m refusal
IsCutShort contents mode limits words segments m old new (faults.Device error) = (b : List ℕ) × IsWrittenAs mode limits words segments m b × Breaks contents old new b
