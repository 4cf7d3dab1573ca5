-- Order inside one vat, a law on the turns of a run. (rpc.capnp: "Call", "Resolve", "Disembargo"; the order of calls on one capability is known as
-- E-order.)
-- It speaks of turns and not of events: within one event calls fail, answers are given and gates end, and each changes where the next call goes.
use Rattle.std.specs.Prelude.{◌≡◌, ◌≢◌, ◌⊎◌, ℕ, ◌<◌, ◌==◌, Bool, true, List, [], ◌∷◌, Option, Some, IsSome, ⊤}
use Rattle.std.specs.List.{AllByRecursion, list_any}
use Rattle.std.specs.FinMap.{get}
use Rattle.cp_refs.specs.declared.call.WaitingCall.{WaitingCall}
use Rattle.cp_refs.specs.declared.route.Gate.{Gate}
use Rattle.cp_refs.specs.declared.route.Gate.TheVariants as gates
use Rattle.cp_refs.specs.declared.route.Route.TheVariants as routes
use Rattle.cp_vat_machine.specs.State.{State}
use Rattle.cp_vat_machine.specs.Run.{Moment, Run}
use Rattle.cp_vat_machine.specs.Trace.{Cause, rests, Turn, trace_of}
use Rattle.cp_vat_machine.specs.Ports.{Port, Called, calls_of, port_of, PortRoute}
use Rattle.cp_vat_machine.specs.Exits.{Exit, exits_in, exits_of}
use Rattle.cp_vat_machine.specs.Telling.{TellsItsFulfillment}

-- each earlier one with each later one
abbrev pub EachPair : {X : Type 0} → (X → X → Type 0) → List X → Type 0
EachPair R [] = ⊤
EachPair R (earlier ∷ more) = AllByRecursion (R earlier) more × EachPair R more

-- each turn with those before it
abbrev pub EachTurn : (List Turn → Turn → Type 0) → List Turn → Type 0
EachTurn P [] = ⊤
EachTurn P (turn ∷ past) = P past turn × EachTurn P past

-- of one port, the earlier exit bears the lower ticket
abbrev pub Rises : List Called → Exit → Exit → Type 0
Rises calls earlier later = (port : Port) → port_of calls earlier.ticket ≡ Some port → port_of calls later.ticket ≡ Some port → earlier.ticket < later.ticket

abbrev pub OtherTicket : Exit → Exit → Type 0
OtherTicket earlier later = earlier.ticket ≢ later.ticket

-- the call that exits entered, and goes by the route of its port
abbrev pub GoesByItsPort : List Turn → Exit → Type 0
GoesByItsPort turns exit = (port : Port) × (port_of (calls_of turns) exit.ticket ≡ Some port) × PortRoute turns port exit.route

abbrev pub ExitsByPorts : List Turn → Turn → Type 0
ExitsByPorts past turn = AllByRecursion (GoesByItsPort (turn ∷ past)) (exits_in turn)

-- the call waits at an embargo that is open
abbrev pub IsEmbargoed : State → ℕ → Type 0
IsEmbargoed s ticket =
    (call : WaitingCall) × (n : ℕ) × (get s.waiting.calls ticket ≡ Some call) × (call.gate ≡ gates.Embargo n) × IsSome (get s.marks.embargoes n)

abbrev pub has_left : List Exit → ℕ → Bool
has_left exits ticket = list_any (λ exit. exit.ticket == ticket) exits

-- a call left, or waits at an open embargo, or the route of its port is to wait
-- That the port merely leads to no object, import, null or failure would be weaker.
abbrev pub LeftOrWaits : List Turn → State → Called → Type 0
LeftOrWaits turns s call =
    (has_left (exits_of turns) call.ticket ≡ true) ⊎ (IsEmbargoed s call.ticket ⊎ ((gate : Gate) × PortRoute turns call.port (routes.Wait gate)))

abbrev pub AtRest : List Turn → Turn → Cause → Type 0
AtRest past turn rests = AllByRecursion (LeftOrWaits (turn ∷ past) turn.after) (calls_of past)
AtRest past turn other = ⊤

-- A run's turns are in order.
pub record InOrder (turns : List Turn) : Type 0 where
  -- The exits of one port bear rising tickets: calls on one capability go in the order in which they came. ("Call", E-order)
  pub rising : EachPair (Rises (calls_of turns)) (exits_of turns)
  -- No ticket exits twice. ("Call")
  pub once : EachPair OtherTicket (exits_of turns)
  -- Each exit is of a call that entered, and goes by the route of its port as it then is. ("Call", "PromisedAnswer", "Resolve")
  pub by_ports : EachTurn ExitsByPorts turns
  -- When the vat rests after an event, every call that entered has left, or waits at an open embargo, or the route of its port is to wait.
  -- ("Disembargo", "Resolve")
  pub none_kept : EachTurn (λ past turn. AtRest past turn turn.cause) turns
  -- Each outcome that is given is reported in its turn, once, and no other is. ("Return", "Finish")
  pub told : AllByRecursion TellsItsFulfillment turns

-- these moments are a run whose turns are in order
abbrev pub RunsInOrder : Option ℕ → List Moment → Type 0
RunsInOrder bootstrap history = (run : Run bootstrap history) × InOrder (trace_of bootstrap history run)
