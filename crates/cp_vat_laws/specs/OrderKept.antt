-- What holds of a vat and of the turns that led to it, so that its turns are in order. (rpc.capnp: "Call", "Resolve", "Disembargo".)
use Rattle.std.specs.Prelude.{◌≡◌, ◌⊎◌, ℕ, ◌<◌, ◌≤◌, Bool, true, false, List, [], ◌∷◌, Option, Some, None, is_some, IfSome, IsSome}
use Rattle.std.specs.List.{AllByRecursion}
use Rattle.std.specs.FinMap.{get}
use Rattle.cp_refs.specs.Route.{Routes}
use Rattle.cp_refs.specs.declared.cap.Cap.{Cap}
use Rattle.cp_refs.specs.declared.call.WaitingCall.{WaitingCall}
use Rattle.cp_refs.specs.declared.route.Gate.{Gate}
use Rattle.cp_refs.specs.declared.route.Gate.TheVariants as gates
use Rattle.cp_refs.specs.declared.route.Route.{Route}
use Rattle.cp_refs.specs.declared.route.Route.TheVariants as routes
use Rattle.cp_vat_machine.specs.State.{State, gave}
use Rattle.cp_vat_machine.specs.Calling.{Standing, on_wire, reference_of, mark_of}
use Rattle.cp_vat_machine.specs.Run.{Moment, Run}
use Rattle.cp_vat_machine.specs.Trace.{Turn, trace_of}
use Rattle.cp_vat_machine.specs.Ports.{Name, answer_path, capability, Port, Called, calls_of, port_of, PortRoute, absences, is_there}
use Rattle.cp_vat_machine.specs.Exits.{Exit, exits_of}
use Rattle.cp_vat_machine.specs.InOrder.{EachPair, EachTurn, Rises, OtherTicket, ExitsByPorts, AtRest, has_left, InOrder}

-- Where a gate that isn't over leads: an embargo to what its reference came to, any other one to itself.
abbrev pub Stands : State → Gate → Route → Type 0
Stands s (gates.Embargo n) route = (value : Cap) × (get s.marks.embargoes n ≡ Some value) × Routes s.values value route
Stands s gate route = route ≡ routes.Wait gate

-- Where a gate leads, by what it gave.
abbrev pub LeadsBy : State → Gate → Option Cap → Route → Type 0
LeadsBy s gate None route = Stands s gate route
LeadsBy s gate (Some cap) route = Routes s.values cap route

abbrev pub Leads : State → Gate → Route → Type 0
Leads s gate route = LeadsBy s gate (gave s.waiting.over gate) route

-- a gate that is no embargo which is open
abbrev pub IsFree : State → Gate → Type 0
IsFree s (gates.Embargo n) = is_some (get s.waiting.over.embargoes n) ≡ true
IsFree s gate = Unit {0}

-- Calls on a marked reference wait at its embargo, and none waits where it has none.
abbrev pub FitsMark : State → Option (Option ℕ) → Gate → Type 0
FitsMark s None gate = IsFree s gate
FitsMark s (Some None) gate = ⊥
FitsMark s (Some (Some n)) gate = (gate ≡ gates.Embargo n) × (get s.waiting.over.embargoes n ≡ None)

-- a reference that isn't open on the wire
abbrev pub is_off_wire : Standing → Bool
is_off_wire on_wire = false
is_off_wire other = true

-- A call on this name may wait at that gate.
abbrev pub FitsName : State → Name → Gate → Type 0
FitsName s (answer_path a path) gate = IsFree s gate
FitsName s (capability cap) gate = (is_off_wire (reference_of s.values cap) ≡ true) × FitsMark s (mark_of s cap) gate

-- A call waits for its port: where its gate leads is the route of the port, and while the life of that lasts, the gate fits what it names.
pub record WaitsFor (past : List Turn) (s : State) (ticket : ℕ) (gate : Gate) : Type 0 where
  pub port : Port
  pub called : port_of (calls_of past) ticket ≡ Some port
  pub route : Route
  pub leads : Leads s gate route
  pub goes : PortRoute past port route
  pub fits : absences port.name past ≡ port.life → (is_there s.values port.name ≡ true) × FitsName s port.name gate

-- these two calls entered at one port
abbrev pub AreOfOne : List Turn → ℕ → ℕ → Type 0
AreOfOne past ticket other = (port : Port) × (port_of (calls_of past) ticket ≡ Some port) × (port_of (calls_of past) other ≡ Some port)

-- A call that left doesn't wait, and those of its port that wait came later.
pub record HasGone (past : List Turn) (s : State) (exit : Exit) : Type 0 where
  pub given : exit.ticket < s.next_ticket
  pub gone : get s.waiting.calls exit.ticket ≡ None
  pub ahead : (ticket : ℕ) → IsSome (get s.waiting.calls ticket) → AreOfOne past exit.ticket ticket → exit.ticket < ticket

-- Each call that entered has the port under its ticket, and left or waits.
abbrev pub LeftOrHeld : List Turn → State → Called → Type 0
LeftOrHeld past s call =
    (port_of (calls_of past) call.ticket ≡ Some call.port)
    × (has_left (exits_of past) call.ticket ≡ true ⊎ IsSome (get s.waiting.calls call.ticket))

-- the state is what the last of these turns left
abbrev pub IsAfter : List Turn → State → Type 0
IsAfter [] s = Unit {0}
IsAfter (turn ∷ past) s = turn.after ≡ s

-- These turns are in order, as far as they go and but for what they report.
pub record AreOrderly (turns : List Turn) : Type 0 where
  pub rising : EachPair (Rises (calls_of turns)) (exits_of turns)
  pub once : EachPair OtherTicket (exits_of turns)
  pub by_ports : EachTurn ExitsByPorts turns
  pub none_kept : EachTurn (λ past turn. AtRest past turn turn.cause) turns

-- The invariant of a run: what holds after each of its turns.
pub record OrderHolds (past : List Turn) (s : State) : Type 0 where
  pub after : IsAfter past s
  -- tickets of calls are below the next one, and the lives of their ports began before
  pub below : (ticket : ℕ) (port : Port) → port_of (calls_of past) ticket ≡ Some port → ticket < s.next_ticket
  pub lives : (ticket : ℕ) (port : Port) → port_of (calls_of past) ticket ≡ Some port → port.life ≤ absences port.name past
  -- each waiting call waits for its port, and those of one port wait at one embargo, if one does at an open one
  pub waits : (ticket : ℕ) → IfSome (get s.waiting.calls ticket) (λ call. WaitsFor past s ticket call.gate)
  pub together : (ticket other : ℕ) (call held : WaitingCall) (n : ℕ) → get s.waiting.calls ticket ≡ Some call → get s.waiting.calls other ≡ Some held
      → AreOfOne past ticket other → call.gate ≡ gates.Embargo n → get s.waiting.over.embargoes n ≡ None → held.gate ≡ gates.Embargo n
  -- each call that entered left or waits, and what left is ahead of what waits
  pub entered : AllByRecursion (LeftOrHeld past s) (calls_of past)
  pub left : AllByRecursion (HasGone past s) (exits_of past)
  pub orderly : AreOrderly past

-- Every run's turns are in order.
abbrev pub RunsAreInOrder : Type 0
RunsAreInOrder = (bootstrap : Option ℕ) (history : List Moment) (run : Run bootstrap history) → InOrder (trace_of bootstrap history run)

-- They are, but for what they report.
abbrev pub RunsAreOrderly : Type 0
RunsAreOrderly = (bootstrap : Option ℕ) (history : List Moment) (run : Run bootstrap history) → AreOrderly (trace_of bootstrap history run)
