-- The calls that entered, and the port of each, with its route. (rpc.capnp: "Call", "PromisedAnswer", "Resolve".)
use Rattle.std.specs.Prelude.{◌≡◌, ℕ, suc, ◌==◌, Bool, true, false, cond, List, [], ◌∷◌, Option, Some, None, is_some, option_map}
use Rattle.std.specs.FinMap.{get}
use Rattle.cp_tables.specs.declared.counted.Counted.{Counted}
use Rattle.cp_messages.specs.declared.target.Target.{Target}
use Rattle.cp_messages.specs.declared.target.Target.TheVariants as targets
use Rattle.cp_messages.specs.declared.message.Message.{Message}
use Rattle.cp_messages.specs.declared.message.Message.TheVariants as messages
use Rattle.cp_refs.specs.At.{cap_at}
use Rattle.cp_refs.specs.Route.{Routes}
use Rattle.cp_refs.specs.Values.{ValueMaps}
use Rattle.cp_refs.specs.declared.cap.Cap.{Cap}
use Rattle.cp_refs.specs.declared.cap.Cap.TheVariants as caps
use Rattle.cp_refs.specs.declared.call.Origin.{Origin}
use Rattle.cp_refs.specs.declared.call.Origin.TheVariants as origins
use Rattle.cp_refs.specs.declared.outcome.Outcome.{Outcome}
use Rattle.cp_refs.specs.declared.route.Gate.{Gate}
use Rattle.cp_refs.specs.declared.route.Gate.TheVariants as gates
use Rattle.cp_refs.specs.declared.route.Route.{Route}
use Rattle.cp_refs.specs.declared.route.Route.TheVariants as routes
use Rattle.cp_vat_machine.specs.State.{State, gave}
use Rattle.cp_vat_machine.specs.Receiving.{path_of}
use Rattle.cp_vat_machine.specs.Supported.{is_supported}
use Rattle.cp_vat_machine.specs.Calling.{Standing, plain, on_wire, came_to, reference_of}
use Rattle.cp_vat_machine.specs.Trace.{Cause, own_part, Turn}
use Rattle.cp_vat_machine.specs.declared.event.Event.{Event}
use Rattle.cp_vat_machine.specs.declared.event.Event.TheVariants as events
use Rattle.cp_vat_machine.specs.declared.event.Value.{Value}
use Rattle.cp_vat_machine.specs.declared.event.Value.TheVariants as values

-- What a call names: what an answer will give at a path, or a capability. A call of the peer's on an export names what is exported.
pub data Name : Type 0 where
  answer_path : ℕ → List ℕ → Name
  capability : Cap → Name

-- A call enters with a ticket, for an origin, on what it names.
pub record Entry : Type 0 where
  pub ticket : ℕ
  pub origin : Origin
  pub name : Name

abbrev pub exported : Option (Counted Cap) → Option Name
exported None = None
exported (Some entry) = Some (capability entry.kept)

abbrev pub named : State → Target → Option Name
named s (targets.ImportedCap e) = exported (get s.counts.exports e)
named s (targets.PromisedAnswer answer) = Some (answer_path answer.question_id (path_of answer.transform))
named s (targets.Unknown n) = None

-- the next ticket is given to a call that comes, and to the application's
abbrev pub entry_on : State → Origin → Name → Entry
entry_on s origin name = record { ticket = s.next_ticket; origin = origin; name = name }

abbrev pub entry_of_message : State → Message → Option Entry
entry_of_message s (messages.Call c) = option_map (entry_on s (origins.Answer c.question_id)) (named s c.target)
entry_of_message s other = None

abbrev pub entry_of_event : State → Event → Value → Option Entry
entry_of_event s (events.Receive m) value = cond (is_supported m) (entry_of_message s m) None
entry_of_event s (events.Call cap request) (values.Question q) = Some (entry_on s (origins.Own q) (capability cap))
entry_of_event s event value = None

-- the call that enters in a turn
abbrev pub entry_by : State → Cause → Option Entry
entry_by s (own_part event value) = entry_of_event s event value
entry_by s other = None

abbrev pub entry_of : Turn → Option Entry
entry_of turn = entry_by turn.before turn.cause

-- what is named exists: the answer is kept, the promise, the import or the question has an entry
abbrev pub is_there : ValueMaps → Name → Bool
is_there values (answer_path a path) = is_some (get values.answers a)
is_there values (capability (caps.Promise p)) = is_some (get values.promises p)
is_there values (capability (caps.Import i)) = is_some (get values.imports i)
is_there values (capability (caps.Pipelined q path)) = is_some (get values.questions q)
is_there values (capability other) = true

-- after how many turns it wasn't there
abbrev pub absences : Name → List Turn → ℕ
absences name [] = 0
absences name (turn ∷ past) = cond (is_there turn.after.values name) (absences name past) (suc (absences name past))

-- The port of a call: what it names, in one life of its number. Two lives differ by how often the number had no entry before.
-- A call of the peer's on an export has the port of what is exported, as the application's own call on that has: so the order holds across both
-- sides.
pub record Port : Type 0 where
  pub name : Name
  pub life : ℕ

-- a call that entered, and its port
pub record Called : Type 0 where
  pub ticket : ℕ
  pub port : Port

abbrev pub with_entry : List Turn → Option Entry → List Called → List Called
with_entry past None calls = calls
with_entry past (Some entry) calls = record { ticket = entry.ticket; port = record { name = entry.name; life = absences entry.name past } } ∷ calls

-- the calls that entered, the latest first
abbrev pub calls_of : List Turn → List Called
calls_of [] = []
calls_of (turn ∷ past) = with_entry past (entry_of turn) (calls_of past)

-- the port of the call with this ticket
abbrev pub port_of : List Called → ℕ → Option Port
port_of [] ticket = None
port_of (call ∷ calls) ticket = cond (call.ticket == ticket) (Some call.port) (port_of calls ticket)

-- The route of an answer at a path: to wait until it is given, and then that of what it gave.
abbrev pub AnswerRoute : ValueMaps → ℕ → List ℕ → Option (Option Outcome) → Route → Type 0
AnswerRoute values a path None route = ⊥
AnswerRoute values a path (Some None) route = route ≡ routes.Wait (gates.Answer a path)
AnswerRoute values a path (Some (Some outcome)) route = Routes values (cap_at outcome path) route

-- The route of a capability that is called. An import or a question's path that came to something has the route of its value; while it is open on
-- the wire, the route is to the peer, at that very target.
abbrev pub ReferenceRoute : ValueMaps → Cap → Standing → Route → Type 0
ReferenceRoute values cap (came_to value) route = Routes values value route
ReferenceRoute values cap on_wire route = Routes values cap route
ReferenceRoute values cap plain route = Routes values cap route

abbrev pub NameRoute : ValueMaps → Name → Route → Type 0
NameRoute values (answer_path a path) route = AnswerRoute values a path (get values.answers a) route
NameRoute values (capability cap) route = ReferenceRoute values cap (reference_of values cap) route

-- A route that is kept: where it was to wait at a gate that has ended, it is now the route of what the gate gave.
abbrev pub EndedRoute : ValueMaps → Gate → Option Cap → Route → Type 0
EndedRoute values gate None route = route ≡ routes.Wait gate
EndedRoute values gate (Some cap) route = Routes values cap route

abbrev pub KeptRoute : State → Route → Route → Type 0
KeptRoute s (routes.Wait gate) route = EndedRoute s.values gate (gave s.waiting.over gate) route
KeptRoute s earlier route = route ≡ earlier

-- The route of a port after these turns. While its life lasts it is that of what it names; past its end the port keeps the route it had earlier.
abbrev pub LifeRoute : Bool → Turn → Name → (Route → Type 0) → Route → Type 0
LifeRoute true turn name Earlier route = NameRoute turn.after.values name route
LifeRoute false turn name Earlier route = (earlier : Route) × Earlier earlier × KeptRoute turn.after earlier route

abbrev pub PortRoute : List Turn → Port → Route → Type 0
PortRoute [] port route = ⊥
PortRoute (turn ∷ past) port route = LifeRoute (absences port.name (turn ∷ past) == port.life) turn port.name (PortRoute past port) route
