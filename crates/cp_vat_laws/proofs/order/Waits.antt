-- Calls that wait on after a turn wait for their ports.
use Rattle.std.specs.Prelude.{◌≡◌, refl, ℕ, suc, ◌<◌, ◌≤◌, ◌==◌, cond, Bool, true, false, List, [], ◌∷◌, Option, Some, None, IfSome}
use Rattle.std.specs.Option.{option_map}
use Rattle.std.proofs.Common.{arith}
use Rattle.cp_messages.specs.declared.message.Message.{Message}
use Rattle.cp_messages.specs.declared.message.Message.TheVariants as messages
use Rattle.cp_refs.specs.declared.call.Origin.TheVariants as origins
use Rattle.cp_refs.specs.declared.route.Gate.{Gate}
use Rattle.cp_refs.specs.declared.route.Route.{Route}
use Rattle.cp_vat_machine.specs.State.{State}
use Rattle.cp_vat_machine.specs.Supported.{is_supported}
use Rattle.cp_vat_machine.specs.Trace.{Cause, own_part, goes, rests, Turn}
use Rattle.cp_vat_machine.specs.Ports.{Name, Entry, named, entry_on, entry_of_message, entry_of_event, entry_by, entry_of, Port, Called, with_entry, calls_of, port_of, LifeRoute, NameRoute, KeptRoute, PortRoute, absences, is_there}
use Rattle.cp_vat_machine.specs.declared.event.Event.{Event}
use Rattle.cp_vat_machine.specs.declared.event.Event.TheVariants as events
use Rattle.cp_vat_machine.specs.declared.event.Value.{Value}
use Rattle.cp_vat_machine.specs.declared.event.Value.TheVariants as values
use Rattle.cp_vat_laws.specs.OrderKept.{FitsName, WaitsFor, IsAfter}
use Rattle.cp_vat_machine.proofs.Basics.{is_equal}
use Rattle.cp_vat_laws.proofs.order.Basics.{are_equal, are_other}
use Rattle.cp_vat_laws.proofs.order.Passes.{Sound, Passes}
use Rattle.cp_vat_laws.proofs.order.Names.{IsOff, name_follows, name_fits, gate_follows, kept_to}

-- A call enters with the next ticket.
abbrev pub EntersNext : State → Option Entry → Type 0
EntersNext s entry = IfSome entry (λ e. e.ticket ≡ s.next_ticket)

target_enters : (s : State) (a : ℕ) (o : Option Name) → EntersNext s (option_map (entry_on s (origins.Answer a)) o)
target_enters s a None = tt
target_enters s a (Some name) = refl

message_enters : (s : State) (m : Message) → EntersNext s (entry_of_message s m)
message_enters s (messages.Call c) = target_enters s c.question_id (named s c.target)
message_enters s (messages.Unimplemented t) = tt
message_enters s other = tt

supported_enters : (s : State) (m : Message) (b : Bool) → EntersNext s (cond b (entry_of_message s m) None)
supported_enters s m true = message_enters s m
supported_enters s m false = tt

event_enters : (s : State) (event : Event) (value : Value) → EntersNext s (entry_of_event s event value)
event_enters s (events.Receive m) value = supported_enters s m (is_supported m)
event_enters s (events.Call cap request) (values.Question q) = refl
event_enters s event value = tt

pub enters_next : (turn : Turn) → EntersNext turn.before (entry_of turn)
enters_next turn = by turn.cause
  where
    by : (cause : Cause) → EntersNext turn.before (entry_by turn.before cause)
    by (own_part event value) = event_enters turn.before event value
    by (goes call) = tt
    by rests = tt

-- calls that entered earlier keep their ports
port_by : (past : List Turn) (calls : List Called) (s : State) (ticket : ℕ) (port : Port) (o : Option Entry) → EntersNext s o → ticket < s.next_ticket
    → port_of calls ticket ≡ Some port → port_of (with_entry past o calls) ticket ≡ Some port
port_by past calls s ticket port None next low is = is
port_by past calls s ticket port (Some entry) next low is = rw (are_other entry.ticket ticket (λ e. differ e)) is
  where
    differ : entry.ticket ≡ ticket → ⊥
    differ e = omega (arith, e, next, low)

pub port_stays : (past : List Turn) (turn : Turn) (ticket : ℕ) (port : Port) → ticket < turn.before.next_ticket → port_of (calls_of past) ticket ≡ Some port
    → port_of (calls_of (turn ∷ past)) ticket ≡ Some port
port_stays past turn ticket port low is = port_by past (calls_of past) turn.before ticket port (entry_of turn) (enters_next turn) low is

back_by : (past : List Turn) (calls : List Called) (s : State) (ticket : ℕ) (o : Option Entry) → EntersNext s o → ticket < s.next_ticket
    → port_of (with_entry past o calls) ticket ≡ port_of calls ticket
back_by past calls s ticket None next low = refl
back_by past calls s ticket (Some entry) next low = rw (are_other entry.ticket ticket (λ e. differ e)) refl
  where
    differ : entry.ticket ≡ ticket → ⊥
    differ e = omega (arith, e, next, low)

-- and what is looked up of them is the same before
pub port_before : (past : List Turn) (turn : Turn) (ticket : ℕ) → ticket < turn.before.next_ticket → port_of (calls_of (turn ∷ past)) ticket ≡ port_of (calls_of past) ticket
port_before past turn ticket low = back_by past (calls_of past) turn.before ticket (entry_of turn) (enters_next turn) low

-- A life that lasts after a turn lasted before it, and what it names is there.
lasts_by : (b : Bool) (n life : ℕ) → life ≤ n → cond b n (suc n) ≡ life → (n ≡ life) × (b ≡ true)
lasts_by true n life low e = (e, refl)
lasts_by false n life low e = absurd (never low e)
  where
    never : life ≤ n → suc n ≡ life → ⊥
    never low e = omega (arith, low, e)

pub lasts : (past : List Turn) (turn : Turn) (name : Name) (life : ℕ) → life ≤ absences name past → absences name (turn ∷ past) ≡ life
    → (absences name past ≡ life) × (is_there turn.after.values name ≡ true)
lasts past turn name life low e = lasts_by (is_there turn.after.values name) (absences name past) life low e

grown_by : (b : Bool) (n life : ℕ) → life ≤ n → life ≤ cond b n (suc n)
grown_by true n life low = low
grown_by false n life low = omega (arith, low)

pub lives_on : (past : List Turn) (turn : Turn) (name : Name) (life : ℕ) → life ≤ absences name past → life ≤ absences name (turn ∷ past)
lives_on past turn name life low = grown_by (is_there turn.after.values name) (absences name past) life low

-- while its life lasts, a port has the route of what it names
pub alive_route : (past : List Turn) (s : State) (port : Port) (r : Route) → IsAfter past s → absences port.name past ≡ port.life → PortRoute past port r → NameRoute s.values port.name r
alive_route [] s port r after lasting h = absurd h
alive_route (turn ∷ past) s port r after lasting h =
    let life : LifeRoute true turn port.name (PortRoute past port) r = rw (are_equal (absences port.name (turn ∷ past)) port.life lasting) at h in
    rw (← after) life

module _ (past : List Turn) (turn : Turn) (sound : Sound turn.before) (later : Sound turn.after) (passes : Passes turn.before turn.after)
    (after : IsAfter past turn.before) where
  life_by : (port : Port) (r to : Route) → port.life ≤ absences port.name past
      → (absences port.name past ≡ port.life → (is_there turn.before.values port.name ≡ true) × IsOff turn.before.values port.name)
      → PortRoute past port r → KeptRoute turn.after r to → (b : Bool) → (absences port.name (turn ∷ past) == port.life) ≡ b
      → LifeRoute b turn port.name (PortRoute past port) to
  life_by port r to low fits went kept true e =
      let still = lasts past turn port.name port.life low (is_equal (absences port.name (turn ∷ past)) port.life e) in
      let off = fits still.0 in
      name_follows turn.before turn.after sound.opens later passes port.name r to off.0 still.1 off.1 (alive_route past turn.before port r after still.0 went) kept
  life_by port r to low fits went kept false e = (r, went, kept)

  -- The route of a port moves as a route that is kept.
  pub port_follows : (port : Port) (r to : Route) → port.life ≤ absences port.name past
      → (absences port.name past ≡ port.life → (is_there turn.before.values port.name ≡ true) × IsOff turn.before.values port.name)
      → PortRoute past port r → KeptRoute turn.after r to → PortRoute (turn ∷ past) port to
  port_follows port r to low fits went kept = life_by port r to low fits went kept (absences port.name (turn ∷ past) == port.life) refl

  pub off_of : (name : Name) (g : Gate) → FitsName turn.before name g → IsOff turn.before.values name
  off_of (Name.answer_path a path) g h = tt
  off_of (Name.capability c) g h = h.0

  -- A call that waits on at its gate waits for its port.
  pub waits_on : (ticket : ℕ) (g : Gate) (h : WaitsFor past turn.before ticket g)
      → ticket < turn.before.next_ticket → h.port.life ≤ absences h.port.name past → WaitsFor (turn ∷ past) turn.after ticket g
  waits_on ticket g h low lives =
      let kept = kept_to turn.after h.route later in
      record {
        port = h.port;
        called = port_stays past turn ticket h.port low h.called;
        route = kept.0;
        leads = gate_follows turn.before turn.after sound.opens later passes (λ n v is. (sound.embargoes n v is).0) g h.route kept.0 h.leads kept.1;
        goes = port_follows h.port h.route kept.0 lives (λ e. let f = h.fits e in (f.0, off_of h.port.name g f.1)) h.goes kept.1;
        fits =
            λ e.
            let still = lasts past turn h.port.name h.port.life lives e in
            let f = h.fits still.0 in
            (still.1, name_fits turn.before turn.after passes h.port.name g f.0 still.1 f.1);
      }
