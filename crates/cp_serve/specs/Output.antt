-- What a server reads and writes.
use Rattle.std.specs.Prelude.{◌≡◌, ◌≢◌, ◌⊎◌, ℕ, ◌-◌, ◌^◌, ◌≤◌, min, Bool, false, IsSome, List, [], ◌∷◌, ◌++◌, Option, None, length}
use Rattle.std.specs.Global.{Vec}
use Rattle.std.specs.Io.KnownBytes.{Appends, Consumes, IsAtEnd}
use Rattle.cp_words.specs.Limits.{standard}
use Rattle.cp_frame.specs.declared.mode.Mode.{Mode}
use Rattle.cp_frame.specs.declared.fault.FrameFault.TheVariants as frames
use Rattle.cp_frame.specs.Stream.{Open}
use Rattle.cp_tree.specs.declared.fault.WriteFault.TheVariants as writes
use Rattle.cp_messages.specs.declared.message.Message.{Message}
use Rattle.cp_stream.specs.declared.fault.Refusal.{Refusal}
use Rattle.cp_stream.specs.declared.fault.Refusal.TheVariants as refusals
use Rattle.cp_stream.specs.declared.fault.StreamFault.TheVariants as streams
use Rattle.cp_stream.specs.declared.tap.Tap.{Tap}
use Rattle.cp_stream.specs.Tap.{inner_of, failures_of}
use Rattle.cp_stream.specs.Stream.{Messages, HasFault}
use Rattle.cp_stream.specs.Reader.{IsMemory}
use Rattle.cp_stream.specs.Read.{FailedOnce}
use Rattle.cp_stream.specs.Write.{IsWrittenAs}
use Rattle.cp_serve.specs.declared.fault.ServeFault.{ServeFault}
use Rattle.cp_serve.specs.declared.fault.ServeFault.TheVariants as faults
use Rattle.cp_serve.specs.declared.report.Report.{Report}
use Rattle.cp_servants.specs.Servant.{Kind}
use Rattle.cp_serve.specs.Work.{Work}
use Rattle.cp_serve.specs.Service.{TakesAll, ClosesAll, new_work}
use Rattle.cp_serve.specs.History.{IsRunOf}

-- A reader or a writer, by its bytes where they are known and by how many of its calls failed.
pub record Device : Type 0 where
  pub bytes : Option (List ℕ)
  pub failures : ℕ

-- the device after a tap
abbrev pub device : {T : Type 0} → (T → Option (List ℕ)) → Tap T → Device
device known tap = record { bytes = known (inner_of tap); failures = failures_of tap }

-- What a run was given, and what it left: the objects, the reader and the writer.
pub record Ends (A : Type 0) : Type 0 where
  pub objects : List A
  pub others : List A
  pub from : Device
  pub left : Device
  pub old : Device
  pub new : Device

-- these of a call, by its objects and by what its reader and its writer tell of their bytes
abbrev pub ends : {O R W : Type 0} → Vec O → Vec O → (R → Option (List ℕ)) → Tap R → Tap R → (W → Option (List ℕ)) → Tap W → Tap W → Ends O
ends objects others remaining from left contents old new = record {
  objects = objects.items;
  others = others.items;
  from = device remaining from;
  left = device remaining left;
  old = device contents old;
  new = device contents new;
}

-- the bytes are the frames of these messages, each of one segment, one after another
abbrev pub AreWrittenAs : Mode → List Message → List ℕ → Type 0
AreWrittenAs mode [] b = b ≡ []
AreWrittenAs mode (m ∷ more) b =
    (front : List ℕ) × (back : List ℕ) × (b ≡ front ++ back) × IsWrittenAs mode standard standard.frame_words 1 m front × AreWrittenAs mode more back

-- The frames of these messages went out, and nothing else. No call failed.
pub record Writes (mode : Mode) (sent : List Message) (old new : Device) : Type 0 where
  pub bytes : List ℕ
  pub frames : AreWrittenAs mode sent bytes
  pub appends : Appends old.bytes new.bytes bytes
  pub counted : new.failures ≡ old.failures

-- the bytes are a beginning of the frame of the first of these messages, or nothing
abbrev pub Begin : Mode → List Message → List ℕ → Type 0
Begin mode [] b = b ≡ []
Begin mode (m ∷ more) b = (b ≡ []) ⊎ ((left : List ℕ) × IsWrittenAs mode standard standard.frame_words 1 m (b ++ left))

-- Of the frames of these messages a beginning went out, and nothing else.
pub record WritesPart (mode : Mode) (sent : List Message) (old new : Device) : Type 0 where
  pub first : List Message
  pub others : List Message
  pub splits : sent ≡ first ++ others
  pub bytes : List ℕ
  pub part : List ℕ
  pub frames : AreWrittenAs mode first bytes
  pub begin : Begin mode others part
  pub appends : Appends old.bytes new.bytes (bytes ++ part)

-- why no more messages are taken: the reader's bytes ended after a message; or the vat closed; or 2^64 - 1 bytes or more were read
abbrev pub IsOver : List ℕ → List ℕ → Option (List ℕ) → Work → Type 0
IsOver bytes rest left w = ((rest ≡ []) × IsAtEnd left) ⊎ (IsSome w.closed ⊎ (2 ^ 64 - 1 ≤ length bytes))

-- The report counts the messages that were taken and those that were sent, up to the greatest u64, and says why the vat closed.
pub record Counts (taken sent : List Message) (last : Work) (report : Report) : Type 0 where
  pub counts_taken : report.messages ≡ min (length taken) (2 ^ 64 - 1)
  pub counts_sent : report.sent ≡ min (length sent) (2 ^ 64 - 1)
  pub reason : report.closed ≡ last.closed

-- the place of a fault: the length of the frames before the rest, or the greatest u64
abbrev pub IsPlace : List ℕ → List ℕ → ℕ → Type 0
IsPlace bytes rest at = at ≡ min (length bytes - length rest) (2 ^ 64 - 1)

-- why the rest isn't read on: the reader's bytes end inside a frame; or the rest has the fault, whatever follows
abbrev pub IsFaultOfRest : Mode → List ℕ → Option (List ℕ) → Refusal → Type 0
IsFaultOfRest mode rest left (refusals.Frame frames.Truncated) = (rest ≢ []) × Open mode standard rest × IsAtEnd left
IsFaultOfRest mode rest left refusal = HasFault mode standard rest refusal

-- memory ran out: for what is read, or for what is written
abbrev pub IsAllocationFailure : Refusal → Type 0
IsAllocationFailure refusal = IsMemory refusal ⊎ (refusal ≡ refusals.Write writes.OutOfMemory)

-- Of objects of one kind.
module _ {A : Type 0} (kind : Kind A) where
  -- These messages are sent where those are taken, and rounds follow. It is noted whether the last round gave what was awaited.
  pub record Sends (objects : List A) (taken sent : List Message) (gave : Bool) (last : Work) (others : List A) : Type 0 where
    pub mid : Work
    pub between : List A
    pub first : List Message
    pub closing : List Message
    pub takes : TakesAll kind new_work objects taken first mid between
    pub closes : ClosesAll kind mid between gave closing last others
    pub all : sent ≡ first ++ closing

  -- What a server sends for messages and objects: it takes the messages, and rounds follow until one gives nothing that is awaited, or the vat closed.
  pub record Output (objects : List A) (taken sent : List Message) (last : Work) (others : List A) : Type 0 where
    pub gave : Bool
    pub sends : Sends objects taken sent gave last others
    pub ends : (gave ≡ false) ⊎ IsSome last.closed

  -- A run was served to its end. Bytes were read, which are frames of messages and then a rest; no more messages are taken; what a server sends for
  -- these messages and objects was written, and nothing else; its vat's events are a run; and the report counts.
  pub record IsServed (mode : Mode) (objects : List A) (from left old new : Device) (report : Report) (others : List A) : Type 0 where
    pub bytes : List ℕ
    pub consumed : Consumes from.bytes left.bytes bytes
    pub taken : List Message
    pub rest : List ℕ
    pub messages : Messages mode standard bytes taken rest
    pub sent : List Message
    pub last : Work
    pub output : Output objects taken sent last others
    pub run : IsRunOf taken sent last
    pub is_over : IsOver bytes rest left.bytes output.sends.mid
    pub writes : Writes mode sent old new
    pub counts : Counts taken sent last report

  -- Of these bytes messages were taken, and there is a rest. What the messages lead to was written, and nothing else; no closing rounds follow. The vat is
  -- open.
  pub record HasTaken (mode : Mode) (objects : List A) (bytes : List ℕ) (old new : Device) (others : List A) : Type 0 where
    pub taken : List Message
    pub rest : List ℕ
    pub messages : Messages mode standard bytes taken rest
    pub sent : List Message
    pub last : Work
    pub takes : TakesAll kind new_work objects taken sent last others
    pub is_open : last.closed ≡ None
    pub writes : Writes mode sent old new

  -- A fault of reading: after the messages that were taken of the bytes read, the rest has the fault.
  pub record IsRefused (mode : Mode) (objects : List A) (bytes : List ℕ) (left : Option (List ℕ)) (old new : Device) (at : ℕ) (refusal : Refusal) (others : List A) : Type 0 where
    pub before : HasTaken mode objects bytes old new others
    pub fault : IsFaultOfRest mode before.rest left refusal
    pub place : IsPlace bytes before.rest at

  -- messages were taken and sent what they lead to; or all were, and rounds followed
  abbrev pub Starts : List A → List Message → List Message → (Work → Type 0) → Type 0
  Starts objects taken sent ends =
      ((last : Work) × (others : List A) × TakesAll kind new_work objects taken sent last others)
      ⊎ ((gave : Bool) × (last : Work) × (others : List A) × (all : Sends objects taken sent gave last others) × ends all.mid)

  -- A run was cut off: of what is sent for messages of the bytes that were read a beginning was written, and nothing else.
  pub record IsCutOff (mode : Mode) (objects : List A) (bytes : List ℕ) (left : Option (List ℕ)) (old new : Device) : Type 0 where
    pub taken : List Message
    pub rest : List ℕ
    pub messages : Messages mode standard bytes taken rest
    pub sent : List Message
    pub starts : Starts objects taken sent (IsOver bytes rest left)
    pub writes : WritesPart mode sent old new

  -- Why a run stopped, of which these bytes were read: their rest has the fault; or a device's call failed, or memory ran out, and the run was cut off. Each
  -- message that is sent can be written.
  abbrev pub StopsFor : Mode → List A → List ℕ → Device → Device → Device → Device → List A → ServeFault → Type 0
  StopsFor mode objects bytes from left old new others (faults.Stream (streams.Refused at refusal)) =
      IsRefused mode objects bytes left.bytes old new at refusal others
      ⊎ ((cut : IsCutOff mode objects bytes left.bytes old new) × IsAllocationFailure refusal × IsPlace bytes cut.rest at)
  StopsFor mode objects bytes from left old new others (faults.Stream (streams.Device error)) =
      (FailedOnce from.failures left.failures ⊎ FailedOnce old.failures new.failures) × IsCutOff mode objects bytes left.bytes old new
  StopsFor mode objects bytes from left old new others faults.OutOfMemory = IsCutOff mode objects bytes left.bytes old new

  -- bytes were read, and the run stopped
  abbrev pub IsStopped : Mode → List A → Device → Device → Device → Device → List A → ServeFault → Type 0
  IsStopped mode objects from left old new others fault = (bytes : List ℕ) × Consumes from.bytes left.bytes bytes × StopsFor mode objects bytes from left old new others fault

  -- One call of the reader failed. Of the bytes before it each message that came whole was taken, and what these lead to was written. The vat is open. A reader
  -- may fail at any call, so this holds before each one. What came is answered first, and nothing more is read once the vat closed.
  abbrev pub IsUnread : Mode → List A → Device → Device → Device → Device → List A → Type 0
  IsUnread mode objects from left old new others =
      FailedOnce from.failures left.failures × (bytes : List ℕ) × Consumes from.bytes left.bytes bytes
      × (before : HasTaken mode objects bytes old new others) × Open mode standard before.rest

  -- no call of the reader failed; or the fault is that one did
  abbrev pub ReadsTo : Mode → List A → Device → Device → Device → Device → List A → ServeFault → Type 0
  ReadsTo mode objects from left old new others (faults.Stream (streams.Device error)) = (left.failures ≡ from.failures) ⊎ IsUnread mode objects from left old new others
  ReadsTo mode objects from left old new others fault = left.failures ≡ from.failures

  -- the same of what a run was given and left
  abbrev pub IsServedAt : Mode → Ends A → Report → Type 0
  IsServedAt mode e report = IsServed mode e.objects e.from e.left e.old e.new report e.others

  abbrev pub IsStoppedAt : Mode → Ends A → ServeFault → Type 0
  IsStoppedAt mode e fault = IsStopped mode e.objects e.from e.left e.old e.new e.others fault

  abbrev pub ReadsUpTo : Mode → Ends A → ServeFault → Type 0
  ReadsUpTo mode e fault = ReadsTo mode e.objects e.from e.left e.old e.new e.others fault
