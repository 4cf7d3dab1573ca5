-- What the calls of a connection do: each is the call of the connection behind the handle.
use Rattle.std.specs.Prelude.{◌≡◌, ◌⊎◌, ℕ, ◌<◌, ◌≤◌, List, [], length, slice_index_or, Option, None, Some, Result, Ok, Err}
use Rattle.std.specs.List.{AllZip}
use Rattle.std.specs.Str.{IsUtf8}
use Rattle.cp_tree.specs.Node.{Node}
use Rattle.cp_messages.specs.Written.{kind_number}
use Rattle.cp_messages.specs.declared.exception.Exception.{Exception}
use Rattle.cp_refs.specs.declared.cap.Cap.{Cap}
use Rattle.cp_refs.specs.declared.cap.Cap.TheVariants as caps
use Rattle.cp_refs.specs.declared.call.Origin.{Origin}
use Rattle.cp_refs.specs.declared.call.Request.{Request}
use Rattle.cp_refs.specs.declared.outcome.Outcome.TheVariants as outcomes
use Rattle.cp_vat_machine.specs.declared.event.Event.{Event}
use Rattle.cp_vat_machine.specs.declared.event.Event.TheVariants as events
use Rattle.cp_vat_machine.specs.declared.event.Value.{Value}
use Rattle.cp_vat_machine.specs.declared.event.Value.TheVariants as values
use Rattle.cp_connection.specs.declared.fault.ConnectionFault.{ConnectionFault}
use Rattle.cp_connection.specs.Doing.{Acts, answered}
use Rattle.cp_connection.specs.declared.event.ConnectionEvent.{ConnectionEvent}
use Rattle.cp_connection.specs.Link.{Link}
use Rattle.cp_connection.specs.Receiving.{HandsOut, Receives, IsUnreceived, EndsWell, EndsBadly}
use Rattle.c_handles.specs.declared.code.CallFault.{CallFault}
use Rattle.c_handles.specs.declared.code.CallFault.TheVariants as faults
use Rattle.c_handles.specs.declared.caps.CapNumbers.{CapNumbers}
use Rattle.c_handles.specs.declared.connection.ConnectionState.{ConnectionState}
use Rattle.c_handles.specs.Fault.{fault_of, told, no_memory}
use Rattle.c_handles.specs.Caps.{numbers_of, Names, IsNotNamed, AreNotNamed}
use Rattle.c_handles.specs.Content.{HoldsContent, HoldsNoContent, IsContentFrame, HasNoFrame}
use Rattle.c_handles.specs.declared.event.EventNumbers.{EventNumbers}
use Rattle.c_handles.specs.Event as happened
use Rattle.c_handles.specs.Event.{content_of, table_of, reason_of}
use Rattle.c_handles.specs.Holds.{counted_from, held, held_less}

-- only the connection changes, and not what was handed out and lent
abbrev pub ChangesOnly : ConnectionState → ConnectionState → Type 0
ChangesOnly old new = new ≡ record old { connection = new.connection }

module _ {A : Type 0} where
  -- a call of the application is that of the connection
  pub record ActsAs (value : A → Value) (old : ConnectionState) (event : Event) (result : Result A CallFault) (new : ConnectionState) : Type 0 where
    pub given : Result A ConnectionFault
    pub acts : Acts old.connection event (answered value given) new.connection
    pub result_is : result ≡ told given
    pub changes : ChangesOnly old new

  -- nothing was done, for this reason
  abbrev pub NotDone : (CallFault → Type 0) → ConnectionState → Result A CallFault → ConnectionState → Type 0
  NotDone why old result new = (fault : CallFault) × why fault × (result ≡ Err fault) × (new ≡ old)

-- bytes of the peer are taken, one at least where there is one; or a fault says why not
abbrev pub TakesAs : ConnectionState → List ℕ → Result ℕ CallFault → ConnectionState → Type 0
TakesAs old piece (Ok count) new = Receives old.connection piece count new.connection × (0 < length piece → 0 < count) × ChangesOnly old new
TakesAs old piece (Err fault) new =
    (why : ConnectionFault) × (taken : List ℕ) × IsUnreceived old.connection piece taken why new.connection × (fault ≡ fault_of why) × ChangesOnly old new

-- the peer's bytes end, or a fault says why not
abbrev pub EndsAs : ConnectionState → Result (Unit {0}) CallFault → ConnectionState → Type 0
EndsAs old (Ok done) new = EndsWell old.connection new.connection × ChangesOnly old new
EndsAs old (Err fault) new = (why : ConnectionFault) × EndsBadly old.connection why new.connection × (fault ≡ fault_of why) × ChangesOnly old new

-- a promise is settled as the capability that the numbers name; or they name none
abbrev pub Resolves : ConnectionState → ℕ → CapNumbers → Result (Unit {0}) CallFault → ConnectionState → Type 0
Resolves old promise value result new =
    ((cap : Cap) × Names value cap × ActsAs (λ _. values.Nothing) old (events.Resolve promise cap) result new) ⊎ NotDone (IsNotNamed value) old result new

-- the content is that of the frame, and the table is named by the numbers
abbrev pub IsPayload : List ℕ → List CapNumbers → Node × List Cap → Type 0
IsPayload b table p = HoldsContent b p.0 × AllZip Names table p.1

-- why there is none
abbrev pub IsNoPayload : List ℕ → List CapNumbers → CallFault → Type 0
IsNoPayload b table fault = HoldsNoContent b fault ⊎ AreNotNamed table fault

-- the capability and the call that these numbers, this frame and this table say
pub record IsRequest (target : CapNumbers) (method : ℕ × ℕ) (params : List ℕ) (table : List CapNumbers) (asked : Cap × Request) : Type 0 where
  pub names : Names target asked.0
  pub interface_is : asked.1.interface ≡ method.0
  pub method_is : asked.1.method ≡ method.1
  pub payload : IsPayload params table (asked.1.content, asked.1.caps)

-- why there is no call
abbrev pub IsNoRequest : CapNumbers → List ℕ → List CapNumbers → CallFault → Type 0
IsNoRequest target params table fault = IsNoPayload params table fault ⊎ IsNotNamed target fault

-- the call was made; or nothing was done
abbrev pub Calls : ConnectionState → CapNumbers → ℕ × ℕ → List ℕ → List CapNumbers → Result ℕ CallFault → ConnectionState → Type 0
Calls old target method params table result new =
    ((asked : Cap × Request) × IsRequest target method params table asked × ActsAs (λ q. values.Question q) old (events.Call asked.0 asked.1) result new)
    ⊎ NotDone (IsNoRequest target params table) old result new

-- the call was answered with results; or nothing was done
abbrev pub Answers : ConnectionState → Origin → List ℕ → List CapNumbers → Result (Unit {0}) CallFault → ConnectionState → Type 0
Answers old origin results table result new =
    ((p : Node × List Cap) × IsPayload results table p × ActsAs (λ _. values.Nothing) old (events.Answer origin (outcomes.Results p.0 p.1)) result new)
    ⊎ NotDone (IsNoPayload results table) old result new

-- the exception has this type and this reason, and no trace
abbrev pub IsFailure : ℕ → List ℕ → Exception → Type 0
IsFailure kind reason e = (kind_number e.kind ≡ kind) × (e.reason ≡ reason) × (e.trace ≡ [])

-- why there is none: the reason isn't UTF-8; or memory ran out
abbrev pub IsNoFailure : List ℕ → CallFault → Type 0
IsNoFailure reason fault = ((fault ≡ faults.Argument) × (IsUtf8 reason → ⊥)) ⊎ (fault ≡ no_memory)

-- the call was answered with an exception; or nothing was done
abbrev pub Fails : ConnectionState → Origin → ℕ → List ℕ → Result (Unit {0}) CallFault → ConnectionState → Type 0
Fails old origin kind reason result new =
    ((e : Exception) × IsFailure kind reason e × ActsAs (λ _. values.Nothing) old (events.Answer origin (outcomes.Failed e)) result new)
    ⊎ NotDone (IsNoFailure reason) old result new

-- The program gives an import back: where it holds it more than once it holds it once less, and else the connection is to release it. Only if that does, the
-- program holds it no more.
pub data GivesBack (old : ConnectionState) (import : ℕ) (result : Result (Unit {0}) CallFault) (new : ConnectionState) : Type 0 where
  holds_more : (done : Unit {0}) → 1 < held old.holds.counts import → result ≡ Ok done → new ≡ record old { holds = record { counts = held_less old.holds.counts import } }
      → GivesBack old import result new
  is_last : (done : Unit {0}) (between : ConnectionState) → held old.holds.counts import ≤ 1 → ActsAs {A = Unit {0}} (λ _. values.Nothing) old (events.Release import) (Ok done) between
      → result ≡ Ok done → new ≡ record between { holds = record { counts = held_less old.holds.counts import } } → GivesBack old import result new
  is_refused : (fault : CallFault) → held old.holds.counts import ≤ 1 → ActsAs {A = Unit {0}} (λ _. values.Nothing) old (events.Release import) (Err fault) new
      → result ≡ Err fault → GivesBack old import result new

-- what happened first is handed out, and none of its table is counted; but an event whose table isn't wholly counted stays
pub data Turns (old : ConnectionState) (event : Option ConnectionEvent) (link : Link) (counted : ℕ) : Type 0 where
  goes_on : length (table_of old.event) ≤ old.counted → HandsOut old.connection event link → counted ≡ 0 → Turns old event link counted
  stays : old.counted < length (table_of old.event) → event ≡ old.event → link ≡ old.connection → counted ≡ old.counted → Turns old event link counted

-- An event is told: the program is given each entry of its table that wasn't counted.
pub record Tells (old new : ConnectionState) (numbers : EventNumbers) : Type 0 where
  pub place : ℕ
  pub turns : Turns old new.event new.connection place
  pub given : new.holds.counts ≡ counted_from place (table_of new.event) old.holds.counts
  pub counted : length (table_of new.event) ≤ new.counted
  pub numbers_are : numbers ≡ happened.numbers_of new.event

-- Memory ran out at an entry of its table: once those that are left are counted, all are.
pub record Waits (old new : ConnectionState) : Type 0 where
  pub place : ℕ
  pub turns : Turns old new.event new.connection place
  pub left : counted_from new.counted (table_of new.event) new.holds.counts ≡ counted_from place (table_of new.event) old.holds.counts
  pub uncounted : new.counted < length (table_of new.event)

-- only what is lent changes
pub record Keeps (old new : ConnectionState) : Type 0 where
  pub limits : new.limits ≡ old.limits
  pub connection : new.connection ≡ old.connection
  pub event : new.event ≡ old.event
  pub counted : new.counted ≡ old.counted
  pub holds : new.holds ≡ old.holds

-- the content of the event is lent
abbrev pub LendsContent : ConnectionState → List ℕ → Type 0
LendsContent state b = (content : Node) × (content_of state.event ≡ Some content) × IsContentFrame state.limits content b

-- why none is lent: the event has none, or there is no frame for it
abbrev pub LendsNone : ConnectionState → CallFault → Type 0
LendsNone state fault =
    ((fault ≡ faults.NoContent) × (content_of state.event ≡ None)) ⊎ ((content : Node) × (content_of state.event ≡ Some content) × HasNoFrame state.limits content fault)

-- the numbers are those of the capability at this place of the event's table
abbrev pub HasCap : ConnectionState → ℕ → CapNumbers → Type 0
HasCap state place n = (place < length (table_of state.event)) × (n ≡ numbers_of (slice_index_or (table_of state.event) place caps.None))

-- why there is none
abbrev pub HasNoCap : ConnectionState → ℕ → CallFault → Type 0
HasNoCap state place fault = (fault ≡ faults.NoContent) × (length (table_of state.event) ≤ place)

-- the reason of the event's exception is lent
abbrev pub LendsReason : ConnectionState → List ℕ → Type 0
LendsReason state b = reason_of state.event ≡ Some b

-- why none is lent: the event has none; or memory ran out
abbrev pub LendsNoReason : ConnectionState → CallFault → Type 0
LendsNoReason state fault = ((fault ≡ faults.NoContent) × (reason_of state.event ≡ None)) ⊎ (fault ≡ no_memory)
