-- What a server has come to. No public clause names these.
use Rattle.std.specs.Prelude.{◌≡◌, ◌⊎◌, ℕ, ◌-◌, ◌^◌, min, Bool, true, false, IsSome, List, [], ◌++◌, Option, Some, None, length, take}
use Rattle.std.specs.Global.{Vec}
use Rattle.std.specs.Io.KnownBytes.{append_known, Consumes}
use Rattle.cp_words.specs.Limits.{standard}
use Rattle.cp_frame.specs.declared.mode.Mode.{Mode}
use Rattle.cp_messages.specs.declared.message.Message.{Message}
use Rattle.cp_stream.specs.declared.fault.StreamFault.TheVariants as streams
use Rattle.cp_stream.specs.Stream.{Messages}
use Rattle.cp_stream.specs.Read.{FailedOnce}
use Rattle.cp_stream.specs.Write.{Passes}
use Rattle.cp_stream.specs.Tap.{failures_of}
use Rattle.cp_stream.specs.declared.tap.Tap.{Tap}
use Rattle.cp_tables.specs.Table.{Table}
use Rattle.cp_connection.specs.Counting.{CountsMore}
use Rattle.cp_connection.specs.Link.{Link, HasCome, new_link}
use Rattle.cp_objects.specs.Listed.{listed}
use Rattle.cp_dispatch.specs.Work as work
use Rattle.cp_dispatch.specs.Rounds as rounds
use Rattle.cp_dispatch.specs.WorkOf.{work_of}
use Rattle.cp_serve.specs.declared.fault.ServeFault.{ServeFault}
use Rattle.cp_serve.specs.declared.fault.ServeFault.TheVariants as faults
use Rattle.cp_serve.specs.declared.report.Report.{Report}
use Rattle.cp_serve.specs.declared.serving.Server.{Server}
use Rattle.cp_servants.specs.Servant.{Kind}
use Rattle.cp_serve.specs.Work.{Work}
use Rattle.cp_serve.specs.Service.{TakesAll, ClosesAll, new_work}
use Rattle.cp_serve.specs.Output.{Device, device, Ends, Writes, WritesPart, IsPlace, IsOver, IsServedAt, IsStopped, IsStoppedAt, ReadsTo, ReadsUpTo, StopsFor}
use Rattle.cp_serve.specs.Matching.{reason_in, IsAllDone}

-- the connection of a server, with what is owed to its objects
abbrev pub owed : Server → work.Work
owed s = work_of s.objects s.connection

-- what a server reports
abbrev pub report_of : Server → Report
report_of s = record { messages = s.connection.stats.messages; sent = s.connection.stats.sent; closed = reason_in (owed s).notices }

-- the device, as if these bytes had gone out to it
abbrev pub ahead : Device → List ℕ → Device
ahead to bytes = record { bytes = append_known to.bytes bytes; failures = to.failures }

-- One call of the writer failed, and what went out of these bytes is a beginning of them, or all.
pub record BreaksOff {T : Type 0} (contents : T → Option (List ℕ)) (old new : Tap T) (b : List ℕ) : Type 0 where
  pub sent : List ℕ
  pub left : List ℕ
  pub splits : b ≡ sent ++ left
  pub passes : Passes contents old new sent
  pub failed : FailedOnce (failures_of old) (failures_of new)

-- the bytes that are ready to go out
abbrev pub ready_of : Server → List ℕ
ready_of s = take s.ready s.connection.unwritten

-- nothing is to go out
abbrev pub AllOut : Server → Type 0
AllOut s = s.connection.unwritten ≡ []

-- The connection goes on, and the rest of its bytes has come.
pub record ReadsOn (rest : List ℕ) (s : Server) : Type 0 where
  pub came : HasCome s.connection rest
  pub is_open : s.connection.fault ≡ None

-- why rounds aren't ended: a call of the writer failed; or memory ran out
abbrev pub IsUnended : Device → Device → ServeFault → Type 0
IsUnended old new (faults.Stream (streams.Refused at refusal)) = ⊥
IsUnended old new (faults.Stream (streams.Device error)) = FailedOnce old.failures new.failures
IsUnended old new faults.OutOfMemory = Unit {0}

-- The objects and the writer, before and after.
pub record Out (A : Type 0) : Type 0 where
  pub objects : List A
  pub others : List A
  pub old : Device
  pub new : Device

abbrev pub out : {O W : Type 0} → Vec O → Vec O → (W → Option (List ℕ)) → Tap W → Tap W → Out O
out objects others contents old new = record { objects = objects.items; others = others.items; old = device contents old; new = device contents new }

-- Nothing has come to the server, nothing is owed, and nothing is to go out.
pub record IsNew (mode : Mode) (s : Server) : Type 0 where
  pub connection : s.connection ≡ new_link mode standard (Some 0)
  pub owes : (link : Link) → work_of s.objects link ≡ work.begun false link
  pub ready : s.ready ≡ 0
  pub came : HasCome s.connection []

-- Of objects of one kind.
module _ {A : Type 0} (kind : Kind A) where
  -- Of these bytes messages were taken, and this is the rest; what the messages lead to was sent, and written or is ready to go out; and the connection counts
  -- them.
  pub record Reached (mode : Mode) (start : List A) (held : Device) (bytes rest : List ℕ) (s : Server) (objects : List A) (to : Device) : Type 0 where
    pub taken : List Message
    pub sent : List Message
    pub messages : Messages mode standard bytes taken rest
    pub last : Work
    pub takes : TakesAll kind new_work start taken sent last objects
    pub rests : IsAllDone last (owed s)
    pub writes : Writes mode sent held (ahead to s.connection.unwritten)
    pub all_ready : s.ready ≡ length s.connection.unwritten
    pub place : IsPlace bytes rest s.connection.stats.bytes
    pub counted : s.connection.stats.messages ≡ min (length taken) (2 ^ 64 - 1)
    pub counted_sent : s.connection.stats.sent ≡ min (length sent) (2 ^ 64 - 1)
    pub same_mode : s.connection.mode ≡ mode
    pub same_limits : s.connection.limits ≡ standard

  -- so far, and the stream is read on
  abbrev pub Serves : Mode → List A → Device → List ℕ → Server → List A → Device → Type 0
  Serves mode start held bytes s objects to = (rest : List ℕ) × Reached mode start held bytes rest s objects to × ReadsOn rest s

  -- so far; and the stream is read on, or the vat closed
  abbrev pub GoesOn : Mode → List A → Device → List ℕ → Server → List A → Device → Type 0
  GoesOn mode start held bytes s objects to = Serves mode start held bytes s objects to ⊎ ((rest : List ℕ) × Reached mode start held bytes rest s objects to × IsSome s.connection.fault)

  -- A front of the piece was taken; and the stream is read on, or the vat closed.
  abbrev pub Fills : Mode → List A → Device → List ℕ → List ℕ → List ℕ → Server → List A → Device → Type 0
  Fills mode start held bytes piece left s objects to = (front : List ℕ) × (piece ≡ front ++ left) × GoesOn mode start held (bytes ++ front) s objects to

  -- Rounds followed, and what they lead to was written and counted. It is noted whether the last gave what was awaited.
  pub record Closes (first : Work) (old : Server) (objects : List A) (before : Device) (gave : Bool) (new : Server) (others : List A) (after : Device) : Type 0 where
    pub sent : List Message
    pub last : Work
    pub closes : ClosesAll kind first objects gave sent last others
    pub rests : IsAllDone last (owed new)
    pub writes : Writes old.connection.mode sent before after
    pub counts : CountsMore old.connection.stats.sent (length sent) new.connection.stats.sent
    pub all_out : AllOut new
    pub same_messages : new.connection.stats.messages ≡ old.connection.stats.messages
    pub same_mode : new.connection.mode ≡ old.connection.mode

  -- Rounds followed, and of what they lead to a beginning was written.
  pub record EndsPart (first : Work) (old : Server) (objects : List A) (before after : Device) : Type 0 where
    pub gave : Bool
    pub sent : List Message
    pub last : Work
    pub others : List A
    pub closes : ClosesAll kind first objects gave sent last others
    pub writes : WritesPart old.connection.mode sent before after

  -- so rounds follow to their end: one gave nothing that is awaited, or the vat closed
  abbrev pub EndsSo : Work → Server → List A → Device → Server → List A → Device → Type 0
  EndsSo first old objects before new others after =
      (gave : Bool) × (all : Closes first old objects before gave new others after) × ((gave ≡ false) ⊎ IsSome all.last.closed)

  -- ---- the same, as clauses of functions

  -- what holds of a run of a server to which nothing has come
  abbrev pub FromNew : Server → Ends A → (Mode → Type 0) → Type 0
  FromNew s e holds = (mode : Mode) → Serves mode e.objects e.old [] s e.objects e.old → AllOut s → holds mode

  -- it was served to its end
  abbrev pub Runs : Server → Ends A → Report → Type 0
  Runs s e report = FromNew s e (λ mode. IsServedAt kind mode e report)

  abbrev pub RunsTo : Server → Ends A → Server → Type 0
  RunsTo s e new = Runs s e (report_of new)

  -- it stopped at a call of the reader, if one failed
  abbrev pub RunsUnread : Server → Ends A → ServeFault → Type 0
  RunsUnread s e fault = FromNew s e (λ mode. ReadsUpTo kind mode e fault)

  -- it stopped
  abbrev pub RunStops : Server → Ends A → ServeFault → Type 0
  RunStops s e fault = FromNew s e (λ mode. IsStoppedAt kind mode e fault)

  -- all messages of the reader were taken, or the vat closed
  abbrev pub TakesToEnd : Server → Ends A → Server → Type 0
  TakesToEnd old e new =
      (mode : Mode) (start : List A) (held : Device) → Serves mode start held [] old e.objects e.old → AllOut old
      → (bytes : List ℕ) × Consumes e.from.bytes e.left.bytes bytes
      × (rest : List ℕ) × (all : Reached mode start held bytes rest new e.others e.new) × IsOver bytes rest e.left.bytes all.last × AllOut new

  -- a call of the reader failed, if one did
  abbrev pub TakesUnread : Server → Ends A → ServeFault → Type 0
  TakesUnread old e fault =
      (mode : Mode) (start : List A) (held : Device) → Serves mode start held [] old e.objects e.old → AllOut old → ReadsTo kind mode start e.from e.left held e.new e.others fault

  -- taking the messages stopped
  abbrev pub TakingStops : Server → Ends A → ServeFault → Type 0
  TakingStops old e fault =
      (mode : Mode) (start : List A) (held : Device) → Serves mode start held [] old e.objects e.old → AllOut old → IsStopped kind mode start e.from e.left held e.new e.others fault

  -- the messages of a piece were taken
  abbrev pub TakesPiece : Server → List ℕ → Out A → Server → Type 0
  TakesPiece old piece o new =
      (mode : Mode) (start : List A) (held : Device) (bytes : List ℕ) → Serves mode start held bytes old o.objects o.old → AllOut old
      → GoesOn mode start held (bytes ++ piece) new o.others o.new × AllOut new

  -- taking a piece stopped
  abbrev pub PieceStops : Server → List ℕ → Out A → ServeFault → Type 0
  PieceStops old piece o fault =
      (mode : Mode) (start : List A) (held from left : Device) (bytes : List ℕ) → Serves mode start held bytes old o.objects o.old → AllOut old
      → StopsFor kind mode start (bytes ++ piece) from left held o.new o.others fault

  -- a front of a piece was taken, and what its messages lead to is ready to go out
  abbrev pub TakesFront : Server → List ℕ → List ℕ → Server → List A → List A → Type 0
  TakesFront old piece back new objects others =
      (mode : Mode) (start : List A) (held to : Device) (bytes : List ℕ) → Serves mode start held bytes old objects to → Fills mode start held bytes piece back new others to

  -- taking a front stopped
  abbrev pub FrontStops : Server → List ℕ → Server → ServeFault → List A → List A → Type 0
  FrontStops old piece new fault objects others =
      (mode : Mode) (start : List A) (held from left to : Device) (bytes : List ℕ) → Serves mode start held bytes old objects to
      → StopsFor kind mode start (bytes ++ piece) from left held (ahead to (ready_of new)) others fault

  -- What a message leads to was worked off, and a round followed. Its Finish of an answer that is owed tells no object.
  abbrev pub WorksOut : Server → Server → Vec A → Vec A → Type 0
  WorksOut old new seen others =
      (mid : work.Work) × (between : Vec A) × (gave : Bool) × (owed_then : Table ℕ) × rounds.WorksOff (listed kind) (owed old) mid seen between
      × rounds.Rounds (listed kind) (record mid { owed = owed_then }) gave (owed new) between others

  -- Where a message ended a round followed, and all that is to go out is ready then; and else nothing is done.
  abbrev pub FollowsIf : Bool → Server → Server → Vec A → Vec A → Type 0
  FollowsIf true old new objects others =
      ((gave : Bool) × rounds.Rounds (listed kind) (owed old) gave (owed new) objects others) × (new.ready ≡ length new.connection.unwritten)
  FollowsIf false old new objects others = (new ≡ old) × (others ≡ objects)

  -- a round followed
  abbrev pub Rounded : Server → Bool → Server → Vec A → Vec A → Type 0
  Rounded old gave new objects others = rounds.Rounds (listed kind) (owed old) gave (owed new) objects others

  -- rounds followed to their end
  abbrev pub EndsAll : Server → Out A → Server → Type 0
  EndsAll old o new = (first : Work) → IsAllDone first (owed old) → AllOut old → EndsSo first old o.objects o.old new o.others o.new

  -- rounds weren't ended
  abbrev pub EndingStops : Server → Out A → ServeFault → Type 0
  EndingStops old o fault = (first : Work) → IsAllDone first (owed old) → AllOut old → EndsPart first old o.objects o.old o.new × IsUnended o.old o.new fault
