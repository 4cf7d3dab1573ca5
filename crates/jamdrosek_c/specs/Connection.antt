-- What the calls of C on a connection do: on an open handle each is the call of the connection, and on a closed one none.
use Rattle.std.specs.FinMap.{empty}
use Rattle.std.specs.Prelude.{◌≡◌, ℕ, Bool, false, if◌then◌else◌, List, [], length, Option, None, Some, Result, Ok, Err}
use Rattle.cp_words.specs.Limits.{Bounds}
use Rattle.cp_frame.specs.declared.mode.Mode.{Mode}
use Rattle.cp_vat_machine.specs.declared.event.Event.{Event}
use Rattle.cp_vat_machine.specs.declared.event.Value.{Value}
use Rattle.cp_vat_machine.specs.declared.event.Value.TheVariants as values
use Rattle.cp_vat_machine.specs.InUse.{is_object_used}
use Rattle.cp_connection.specs.declared.fault.ConnectionFault.{ConnectionFault}
use Rattle.cp_connection.specs.declared.fault.ConnectionFault.TheVariants as connections
use Rattle.cp_connection.specs.Link.{new_link_with_tails}
use Rattle.cp_connection.specs.Receiving.{Wrote}
use Rattle.c_handles.specs.declared.code.CallFault.{CallFault}
use Rattle.c_handles.specs.declared.code.Spot.{Spot}
use Rattle.c_handles.specs.declared.method.MethodNumbers.{MethodNumbers}
use Rattle.c_handles.specs.Code.{code_of, spot_of, nowhere}
use Rattle.c_handles.specs.declared.caps.CapNumbers.{CapNumbers}
use Rattle.c_handles.specs.declared.connection.ConnectionState.{ConnectionState}
use Rattle.c_handles.specs.declared.event.EventNumbers.{EventNumbers}
use Rattle.c_handles.specs.declared.event.OriginNumbers.{OriginNumbers}
use Rattle.c_handles.specs.Caps.{of_kind}
use Rattle.c_handles.specs.Event.{nothing, origin_of}
use Rattle.c_handles.specs.Fault.{fault_of, no_memory}
use Rattle.c_handles.specs.declared.bytes.Bytes.{Bytes}
use Rattle.c_handles.specs.Lent.{LieIn}
use Rattle.c_handles.specs.Connection.{ChangesOnly, ActsAs, TakesAs, EndsAs, Resolves, Calls, Answers, Fails, GivesBack, Keeps, Tells, Waits, LendsContent, LendsNone, HasCap, HasNoCap, LendsReason, LendsNoReason}
use Rattle.jamdrosek_c.specs.Tell.{TellsEvent, TellsNumber, done_code}

-- the object that a Bootstrap gets, if there is one
abbrev pub bootstrap_of : Bool → ℕ → Option ℕ
bootstrap_of has object = if has then Some object else None

-- a connection to which nothing came, which serves tail calls
pub record IsNew (mode : Mode) (limits : Bounds) (bootstrap : Option ℕ) (state : ConnectionState) : Type 0 where
  pub connection : state.connection ≡ new_link_with_tails mode limits bootstrap
  pub limits_are : state.limits ≡ limits
  pub none : state.event ≡ None
  pub nothing : state.lent.items ≡ []
  pub counted : state.counted ≡ 0
  pub holds : state.holds.counts ≡ empty

-- one is there
abbrev pub Opens : Mode → Bounds → Bool → ℕ → Option ConnectionState → Type 0
Opens mode limits has_bootstrap bootstrap None = ⊥
Opens mode limits has_bootstrap bootstrap (Some state) = IsNew mode limits (bootstrap_of has_bootstrap bootstrap) state

-- an open handle stays open, and a closed one closed, where the call answers 1
abbrev pub Through : Option ConnectionState → Option ConnectionState → ℕ → (ConnectionState → ConnectionState → Type 0) → Type 0
Through None None code does = code ≡ 1
Through None (Some new) code does = ⊥
Through (Some old) None code does = ⊥
Through (Some old) (Some new) code does = does old new

-- bytes were taken, and their number or the fault told
abbrev pub Takes : List ℕ → ℕ → ℕ → ConnectionState → ConnectionState → Type 0
Takes piece number code old new = (answer : Result ℕ CallFault) × TakesAs old piece answer new × TellsNumber answer number code

abbrev pub Ends : ℕ → ConnectionState → ConnectionState → Type 0
Ends code old new = (answer : Result (Unit {0}) CallFault) × EndsAs old answer new × (code ≡ done_code answer)

-- a call of the application that gives a number, which is told
abbrev pub Asks : (ℕ → Value) → Event → ℕ → ℕ → ConnectionState → ConnectionState → Type 0
Asks value event number code old new = (answer : Result ℕ CallFault) × ActsAs value old event answer new × TellsNumber answer number code

-- a call of the application that gives nothing
abbrev pub Acts : Event → ℕ → ConnectionState → ConnectionState → Type 0
Acts event code old new = (answer : Result (Unit {0}) CallFault) × ActsAs (λ _. values.Nothing) old event answer new × (code ≡ done_code answer)

-- a capability was called, and the question's number is told
abbrev pub CallsFor : CapNumbers → MethodNumbers → List ℕ → List CapNumbers → ℕ → ℕ → ConnectionState → ConnectionState → Type 0
CallsFor target method params table number code old new =
    (answer : Result ℕ CallFault) × Calls old target (method.interface, method.method) params table answer new × TellsNumber answer number code

-- a call was answered, with results or with an exception
abbrev pub AnswersTo : OriginNumbers → List ℕ → List CapNumbers → ℕ → ConnectionState → ConnectionState → Type 0
AnswersTo origin results table code old new = (answer : Result (Unit {0}) CallFault) × Answers old (origin_of origin) results table answer new × (code ≡ done_code answer)

abbrev pub FailsTo : OriginNumbers → ℕ → List ℕ → ℕ → ConnectionState → ConnectionState → Type 0
FailsTo origin kind reason code old new = (answer : Result (Unit {0}) CallFault) × Fails old (origin_of origin) kind reason answer new × (code ≡ done_code answer)

-- one hold of an import was given back
abbrev pub Releases : ℕ → ℕ → ConnectionState → ConnectionState → Type 0
Releases import code old new = (answer : Result (Unit {0}) CallFault) × GivesBack old import answer new × (code ≡ done_code answer)

-- a promise was settled
abbrev pub Settles : ℕ → CapNumbers → ℕ → ConnectionState → ConnectionState → Type 0
Settles promise value code old new = (answer : Result (Unit {0}) CallFault) × Resolves old promise value answer new × (code ≡ done_code answer)

-- what is to go out is lent, and nothing changes
abbrev pub LendsOutgoing : ℕ → ℕ → ConnectionState → ConnectionState → Type 0
LendsOutgoing number code old new = (new ≡ old) × (number ≡ length old.connection.unwritten) × (code ≡ 0)

-- the first bytes that were to go out were written
abbrev pub Writes : ℕ → ℕ → ConnectionState → ConnectionState → Type 0
Writes count code old new = Wrote old.connection count new.connection × ChangesOnly old new × (code ≡ 0)

-- an event is told; or memory ran out
abbrev pub TellsOrWaits : ConnectionState → ConnectionState → Result EventNumbers CallFault → Type 0
TellsOrWaits old new (Ok numbers) = Tells old new numbers
TellsOrWaits old new (Err fault) = Waits old new × (fault ≡ no_memory)

-- what happened first is taken, and its numbers told
pub record HandsOutNumbers (event : EventNumbers) (code : ℕ) (old new : ConnectionState) : Type 0 where
  pub answer : Result EventNumbers CallFault
  pub tells : TellsOrWaits old new answer
  pub told : TellsEvent answer event code
  pub lent : new.lent.items ≡ []
  pub limits : new.limits ≡ old.limits

-- on a closed handle the numbers are those of nothing
abbrev pub HandsOutThrough : Option ConnectionState → Option ConnectionState → EventNumbers → ℕ → Type 0
HandsOutThrough None new event code = Through None new code (λ a b. Unit {0}) × (event ≡ nothing)
HandsOutThrough (Some old) new event code = Through (Some old) new code (HandsOutNumbers event code)

-- what is lent of an event, by what it says and why not
abbrev pub IsLent : (ConnectionState → List ℕ → Type 0) → (ConnectionState → CallFault → Type 0) → ConnectionState → ConnectionState → Result (Unit {0}) CallFault → Type 0
IsLent lends refuses old new (Ok done) = lends old new.lent.items
IsLent lends refuses old new (Err fault) = refuses old fault × (new.lent.items ≡ [])

abbrev pub Lends : (ConnectionState → List ℕ → Type 0) → (ConnectionState → CallFault → Type 0) → Bytes → ℕ → ConnectionState → ConnectionState → Type 0
Lends lends refuses bytes code old new =
    Keeps old new × LieIn bytes new.lent × (answer : Result (Unit {0}) CallFault) × IsLent lends refuses old new answer × (code ≡ done_code answer)

-- whether the connection refers to an object is told
abbrev pub UsesThrough : Option ConnectionState → ℕ → Bool → ℕ → Type 0
UsesThrough None object uses code = (uses ≡ false) × (code ≡ 1)
UsesThrough (Some state) object uses code = (uses ≡ is_object_used state.connection.vat object) × (code ≡ 0)

-- the capability of the event's table is told; or none, and why
abbrev pub TellsCap : Result CapNumbers CallFault → CapNumbers → ℕ → Type 0
TellsCap (Ok numbers) cap code = (cap ≡ numbers) × (code ≡ 0)
TellsCap (Err fault) cap code = (cap ≡ of_kind 0 0) × (code ≡ code_of fault)

abbrev pub IsCapOf : ConnectionState → ℕ → Result CapNumbers CallFault → Type 0
IsCapOf state place (Ok numbers) = HasCap state place numbers
IsCapOf state place (Err fault) = HasNoCap state place fault

abbrev pub CapThrough : Option ConnectionState → ℕ → CapNumbers → ℕ → Type 0
CapThrough None place cap code = (cap ≡ of_kind 0 0) × (code ≡ 1)
CapThrough (Some state) place cap code = (answer : Result CapNumbers CallFault) × IsCapOf state place answer × TellsCap answer cap code

-- why the connection ended, and after which bytes of the peer: 0 where it goes on
abbrev pub ending_code : Option ConnectionFault → ℕ
ending_code None = 0
ending_code (Some fault) = code_of (fault_of fault)

abbrev pub ending_at : Option ConnectionFault → ℕ
ending_at (Some (connections.Unreadable at refusal)) = at
ending_at other = 0

abbrev pub ending_spot : Option ConnectionFault → Spot
ending_spot None = nowhere
ending_spot (Some fault) = spot_of (fault_of fault)

abbrev pub FaultThrough : Option ConnectionState → ℕ → Spot → ℕ → Type 0
FaultThrough None at spot code = (at ≡ 0) × (spot ≡ nowhere) × (code ≡ 1)
FaultThrough (Some state) at spot code = (at ≡ ending_at state.connection.fault) × (spot ≡ ending_spot state.connection.fault) × (code ≡ ending_code state.connection.fault)
