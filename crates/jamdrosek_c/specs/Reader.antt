-- What the calls of C on a reader do: on an open handle each is the call of the reader, and on a closed one none.
use Rattle.std.specs.Prelude.{◌≡◌, ◌≢◌, ℕ, ◌+◌, Bool, false, if◌then◌else◌, List, [], is_some, Option, None, Some, Result, Ok, Err}
use Rattle.cp_words.specs.Limits.{Bounds, IsAllowed}
use Rattle.cp_frame.specs.declared.mode.Mode.{Mode}
use Rattle.cp_frame.specs.declared.mode.Mode.TheVariants as modes
use Rattle.cp_frame.specs.declared.fault.FrameFault.{FrameFault}
use Rattle.cp_frame.specs.Reader.{EndsWell, ReportsAtEnd, Needs, new_reader}
use Rattle.c_handles.specs.declared.bytes.Bytes.{Bytes}
use Rattle.c_handles.specs.Lent.{LieIn}
use Rattle.c_handles.specs.declared.code.CallFault.{CallFault}
use Rattle.c_handles.specs.declared.code.CallFault.TheVariants as faults
use Rattle.c_handles.specs.declared.code.Spot.{Spot}
use Rattle.c_handles.specs.declared.message.MessageNumbers.{MessageNumbers}
use Rattle.c_handles.specs.declared.reader.ReaderState.{ReaderState}
use Rattle.c_handles.specs.Given.{Copies}
use Rattle.c_handles.specs.Reader.{Keeps, Takes, IsMessage, IsNoMessage, IsStruct, IsNoStruct, Writes, IsUnwritten, Recuts, IsUncut, WritesForm, IsFormUnwritten, IsCanonicalFrame, IsNoCanonicalFrame}
use Rattle.jamdrosek_c.specs.declared.tell.Step.{Step}
use Rattle.jamdrosek_c.specs.Tell.{TellsStep, Tells, TellsNumbers, end_code, done_code}

-- the form of a stream
abbrev pub mode_of : Bool → Mode
mode_of packed = if packed then modes.Packed else modes.Plain

-- a reader of which nothing has come is there
abbrev pub IsNew : Mode → Bounds → Option ReaderState → Type 0
IsNew mode limits None = ⊥
IsNew mode limits (Some state) = (state.frames ≡ new_reader mode limits) × (state.limits ≡ limits) × (state.came ≡ None) × (state.lent.items ≡ [])

-- a call is refused for its limits exactly where one is out of its range
pub record IsAllowedFor (limits : Bounds) (code : ℕ) : Type 0 where
  pub within : code ≢ 2 → IsAllowed limits
  pub past : code ≡ 2 → IsAllowed limits → ⊥

-- a closed handle stays closed, and the call answers 1
abbrev pub IsClosed : Option ReaderState → ℕ → Type 0
IsClosed None code = code ≡ 1
IsClosed (Some state) code = ⊥

abbrev pub TakesThrough : Option ReaderState → List ℕ → Option ReaderState → Step → ℕ → Type 0
TakesThrough None piece new step code = IsClosed new code × (step ≡ record { taken = 0; has_frame = false })
TakesThrough (Some old) piece None step code = ⊥
TakesThrough (Some old) piece (Some new) step code = (taken : Result ℕ FrameFault) × Takes old piece new taken × TellsStep taken (is_some new.came) step code

-- how the stream of a reader ended
abbrev pub Ends : ReaderState → ReaderState → Result (Unit {0}) FrameFault → Type 0
Ends old new (Ok done) = EndsWell old.frames new.frames
Ends old new (Err fault) = ReportsAtEnd old.frames new.frames fault

abbrev pub EndsThrough : Option ReaderState → Option ReaderState → ℕ → Type 0
EndsThrough None new code = IsClosed new code
EndsThrough (Some old) None code = ⊥
EndsThrough (Some old) (Some new) code = (ended : Result (Unit {0}) FrameFault) × Ends old new ended × (new.came ≡ old.came) × (code ≡ end_code ended)

abbrev pub NeedsThrough : Option ReaderState → ℕ → Type 0
NeedsThrough None number = number ≡ 0
NeedsThrough (Some state) number = Needs state.frames state.frames.state number

-- what a reader answers of its message
abbrev pub IsMessageOf : ReaderState → Result MessageNumbers CallFault → Type 0
IsMessageOf state (Ok numbers) = IsMessage state.limits state.came numbers
IsMessageOf state (Err fault) = IsNoMessage state.limits state.came fault

abbrev pub MessageThrough : Option ReaderState → MessageNumbers → Spot → ℕ → Type 0
MessageThrough None message spot code = TellsNumbers (Err faults.Closed) message spot code
MessageThrough (Some state) message spot code = (answer : Result MessageNumbers CallFault) × IsMessageOf state answer × TellsNumbers answer message spot code

-- what a reader answers of its struct
abbrev pub IsCheckOf : ReaderState → Result (Unit {0}) CallFault → Type 0
IsCheckOf state (Ok done) = IsStruct state.limits state.came
IsCheckOf state (Err fault) = IsNoStruct state.limits state.came fault

abbrev pub CheckThrough : Option ReaderState → Spot → ℕ → Type 0
CheckThrough None spot code = Tells (Err faults.Closed) spot code
CheckThrough (Some state) spot code = (answer : Result (Unit {0}) CallFault) × IsCheckOf state answer × Tells answer spot code

-- what a reader lends of its frame
abbrev pub IsWriteOf : ReaderState → Mode → ReaderState → Result (Unit {0}) CallFault → Type 0
IsWriteOf old mode new (Ok done) = Writes mode old.limits old.came new.lent.items
IsWriteOf old mode new (Err fault) = IsUnwritten old.limits old.came fault × (new.lent.items ≡ [])

abbrev pub WriteThrough : Mode → Option ReaderState → Option ReaderState → Bytes → ℕ → Type 0
WriteThrough mode None new bytes code = IsClosed new code × (bytes.len ≡ 0)
WriteThrough mode (Some old) None bytes code = ⊥
WriteThrough mode (Some old) (Some new) bytes code = Keeps old new × LieIn bytes new.lent × (answer : Result (Unit {0}) CallFault) × IsWriteOf old mode new answer × (code ≡ done_code answer)

-- what a reader lends of its struct, laid out anew
abbrev pub IsRecutOf : ReaderState → Mode → ℕ → ReaderState → Result (Unit {0}) CallFault → Type 0
IsRecutOf old mode words new (Ok done) = Recuts mode words old.limits old.came new.lent.items
IsRecutOf old mode words new (Err fault) = IsUncut words old.limits old.came fault × (new.lent.items ≡ [])

abbrev pub RecutThrough : Mode → ℕ → Option ReaderState → Option ReaderState → Bytes → Spot → ℕ → Type 0
RecutThrough mode words None new bytes spot code = IsClosed new code × (bytes.len ≡ 0) × Tells (Err faults.Closed) spot code
RecutThrough mode words (Some old) None bytes spot code = ⊥
RecutThrough mode words (Some old) (Some new) bytes spot code =
    Keeps old new × LieIn bytes new.lent × (answer : Result (Unit {0}) CallFault) × IsRecutOf old mode words new answer × Tells answer spot code

-- what a reader lends of the canonical form of its frame's message
abbrev pub IsFormOf : ReaderState → Mode → ReaderState → Result (Unit {0}) CallFault → Type 0
IsFormOf old mode new (Ok done) = WritesForm mode old.limits old.came new.lent.items
IsFormOf old mode new (Err fault) = IsFormUnwritten old.limits old.came fault × (new.lent.items ≡ [])

abbrev pub FormThrough : Mode → Option ReaderState → Option ReaderState → Bytes → Spot → ℕ → Type 0
FormThrough mode None new bytes spot code = IsClosed new code × (bytes.len ≡ 0) × Tells (Err faults.Closed) spot code
FormThrough mode (Some old) None bytes spot code = ⊥
FormThrough mode (Some old) (Some new) bytes spot code =
    Keeps old new × LieIn bytes new.lent × (answer : Result (Unit {0}) CallFault) × IsFormOf old mode new answer × Tells answer spot code

-- whether its message is canonical
abbrev pub IsFormCheckOf : ReaderState → Result (Unit {0}) CallFault → Type 0
IsFormCheckOf state (Ok done) = IsCanonicalFrame state.limits state.came
IsFormCheckOf state (Err fault) = IsNoCanonicalFrame state.limits state.came fault

abbrev pub CheckFormThrough : Option ReaderState → Spot → ℕ → Type 0
CheckFormThrough None spot code = Tells (Err faults.Closed) spot code
CheckFormThrough (Some state) spot code = (answer : Result (Unit {0}) CallFault) × IsFormCheckOf state answer × Tells answer spot code

abbrev pub CopyThrough : Option ReaderState → ℕ → List ℕ → List ℕ → ℕ → Type 0
CopyThrough None from old new number = (new ≡ old) × (number ≡ 0)
CopyThrough (Some state) from old new number = Copies state.lent.items from old new number
