-- What is read of a reader whose bytes are known, frame by frame.
use Rattle.std.specs.Prelude.{◌≡◌, ◌≢◌, ◌⊎◌, ℕ, ◌+◌, ◌%◌, ◌^◌, List, [], ◌++◌, take, Option, Some, None, Result, Ok, Err}
use Rattle.std.specs.Io.KnownBytes.{Consumes, IsAtEnd}
use Rattle.cp_words.specs.Limits.{Bounds}
use Rattle.cp_frame.specs.declared.mode.Mode.{Mode}
use Rattle.cp_frame.specs.declared.fault.FrameFault.{FrameFault}
use Rattle.cp_frame.specs.declared.fault.FrameFault.TheVariants as frames
use Rattle.cp_frame.specs.Frame.{Frame}
use Rattle.cp_packed.specs.Words.{AreBytes}
use Rattle.cp_frame.specs.Stream as streams
use Rattle.cp_messages.specs.declared.message.Message.{Message}
use Rattle.cp_stream.specs.declared.device.DeviceError.{DeviceError}
use Rattle.cp_stream.specs.declared.fault.Refusal.{Refusal}
use Rattle.cp_stream.specs.declared.fault.Refusal.TheVariants as refusals
use Rattle.cp_stream.specs.declared.fault.StreamFault.{StreamFault}
use Rattle.cp_stream.specs.declared.fault.StreamFault.TheVariants as faults
use Rattle.cp_stream.specs.Stream.{IsFrameOf, HoldsNone, Front, HasFault}
use Rattle.cp_stream.specs.Reader.{IsMemory}
use Rattle.cp_stream.specs.Tap.{inner_of, failures_of}
use Rattle.cp_stream.specs.declared.tap.Tap.{Tap}

-- exactly these bytes were read, and nothing is left
abbrev pub ReadsAll : Option (List ℕ) → Option (List ℕ) → List ℕ → Type 0
ReadsAll old new b = Consumes old new b × IsAtEnd new

-- one frame's bytes were read; or none, at the end of the reader's bytes
abbrev pub ReadsFrame : Mode → Bounds → Option (List ℕ) → Option (List ℕ) → Option (List (List ℕ)) → Type 0
ReadsFrame mode limits old new (Some S) = (b : List ℕ) × Consumes old new b × Frame mode limits S b
ReadsFrame mode limits old new None = ReadsAll old new []

-- one frame's bytes were read, and it holds the message; or none, at the end of the reader's bytes
abbrev pub ReadsMessage : Mode → Bounds → Option (List ℕ) → Option (List ℕ) → Option Message → Type 0
ReadsMessage mode limits old new (Some m) = (b : List ℕ) × Consumes old new b × IsFrameOf mode limits b m
ReadsMessage mode limits old new None = ReadsAll old new []

-- why bytes that were read are no frame: they end inside one; or memory ran out; or they have the fault, whatever follows
abbrev pub IsNoFrame : Mode → Bounds → Option (List ℕ) → List ℕ → FrameFault → Type 0
IsNoFrame mode limits new b frames.Truncated = (b ≢ []) × streams.Open mode limits b × IsAtEnd new
IsNoFrame mode limits new b frames.OutOfMemory = Unit {0}
IsNoFrame mode limits new b fault = streams.HasFault mode limits b fault

-- the refusal is one of framing
abbrev pub RefusesFrame : Mode → Bounds → Option (List ℕ) → List ℕ → Refusal → Type 0
RefusesFrame mode limits new b (refusals.Frame fault) = IsNoFrame mode limits new b fault
RefusesFrame mode limits new b _ = ⊥

-- the refusal is one of framing, or the bytes are a frame that holds no message; or memory ran out
abbrev pub RefusesMessage : Mode → Bounds → Option (List ℕ) → List ℕ → Refusal → Type 0
RefusesMessage mode limits new b refusal =
    IsMemory refusal ⊎ (RefusesFrame mode limits new b refusal ⊎ ((S : List (List ℕ)) × Frame mode limits S b × HoldsNone limits S refusal))

-- one call of the device failed, and no other
abbrev pub FailedOnce : ℕ → ℕ → Type 0
FailedOnce old new = new ≡ (old + 1) % 2 ^ 64

-- the fault is that a call of the device failed, whatever its error
abbrev pub IsDevice : StreamFault → Type 0
IsDevice fault = (error : DeviceError) × (fault ≡ faults.Device error)

-- A fault is reported at 0, and what was read is refused for it; or the device failed in this call, as its tap counts.
abbrev pub StopsAt : (List ℕ → Refusal → Type 0) → Option (List ℕ) → Option (List ℕ) → ℕ → ℕ → StreamFault → Type 0
StopsAt why old new failures failed (faults.Refused at refusal) = (at ≡ 0) × (failed ≡ failures) × (b : List ℕ) × Consumes old new b × why b refusal
StopsAt why old new failures failed (faults.Device error) = FailedOnce failures failed × (b : List ℕ) × Consumes old new b

-- so of a reader, by what it tells of its bytes
abbrev pub StopsReading : {T : Type 0} → (T → Option (List ℕ)) → (Option (List ℕ) → List ℕ → Refusal → Type 0) → Tap T → Tap T → StreamFault → Type 0
StopsReading known why old new = StopsAt (why (known (inner_of new))) (known (inner_of old)) (known (inner_of new)) (failures_of old) (failures_of new)

-- what holds of a reader whose bytes are known, before and after
abbrev pub OfKnown : {T : Type 0} → (T → Option (List ℕ)) → Tap T → Tap T → (List ℕ → Option (List ℕ) → Option (List ℕ) → Type 0) → Type 0
OfKnown known old new holds = (b : List ℕ) → AreBytes b → known (inner_of old) ≡ Some b → holds b (known (inner_of old)) (known (inner_of new))

-- the device failed, or memory ran out
abbrev pub IsExcused : StreamFault → Type 0
IsExcused (faults.Refused at refusal) = IsMemory refusal
IsExcused (faults.Device error) = Unit {0}

-- this was given, and exactly these bytes were read; or the call is excused
abbrev pub GivesOnly : {X : Type 0} → Option (List ℕ) → Option (List ℕ) → X → List ℕ → Result (Option X) StreamFault → Type 0
GivesOnly old new x b (Ok (Some y)) = (y ≡ x) × Consumes old new b
GivesOnly old new x b (Ok None) = ⊥
GivesOnly old new x b (Err fault) = IsExcused fault

-- none was given; or the call is excused
abbrev pub GivesNone : {X : Type 0} → Result (Option X) StreamFault → Type 0
GivesNone (Ok (Some y)) = ⊥
GivesNone (Ok None) = Unit {0}
GivesNone (Err fault) = IsExcused fault

-- such a refusal was reported; or the call is excused
abbrev pub ReportsOnly : {X : Type 0} → (Refusal → Type 0) → Result (Option X) StreamFault → Type 0
ReportsOnly why (Ok x) = ⊥
ReportsOnly why (Err (faults.Refused at refusal)) = IsMemory refusal ⊎ why refusal
ReportsOnly why (Err (faults.Device error)) = Unit {0}

-- What is read of a device is what its bytes say: a frame that they begin with; nothing where there are none; F3 where they end inside a frame; else their fault.
pub record OnlyFrame (mode : Mode) (limits : Bounds) (bytes : List ℕ) (old new : Option (List ℕ)) (result : Result (Option (List (List ℕ))) StreamFault) : Type 0 where
  pub frame : (S : List (List ℕ)) (front back : List ℕ) → bytes ≡ front ++ back → Frame mode limits S front → GivesOnly old new S front result
  pub end : bytes ≡ [] → GivesNone result
  pub inside : bytes ≢ [] → streams.Open mode limits bytes → ReportsOnly (λ r. r ≡ refusals.Frame frames.Truncated) result
  pub fault : (fault : FrameFault) → streams.HasFault mode limits bytes fault → ReportsOnly (λ r. r ≡ refusals.Frame fault) result

-- The same of messages: a fault is also that of a frame that holds none.
pub record OnlyMessage (mode : Mode) (limits : Bounds) (bytes : List ℕ) (old new : Option (List ℕ)) (result : Result (Option Message) StreamFault) : Type 0 where
  pub message : (n : ℕ) (m : Message) → Front mode limits bytes n m → GivesOnly old new m (take n bytes) result
  pub end : bytes ≡ [] → GivesNone result
  pub inside : bytes ≢ [] → streams.Open mode limits bytes → ReportsOnly (λ r. r ≡ refusals.Frame frames.Truncated) result
  pub fault : (refusal : Refusal) → HasFault mode limits bytes refusal → ReportsOnly (HasFault mode limits bytes) result
