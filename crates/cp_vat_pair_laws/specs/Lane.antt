-- The calls on one reference, as they were made and as they were delivered. (rpc.capnp: "Call", "Disembargo".)
-- The order is that of references whose value is an object itself, and not a promise that came to one.
use Rattle.std.specs.Prelude.{◌≡◌, ℕ, ◌==◌, ◌&&◌, if◌then◌else◌, Bool, true, false, List, [], ◌∷◌, ◌++◌, map, filter, flat_map, Option, Some, None, option_to_list, Result, Ok, Err}
use Rattle.std.specs.List.{list_any, AllByRecursion}
use Rattle.std.specs.Ordering.{nat_cmp, eq_by_cmp}
use Rattle.std.specs.Cmp.Lexicographic.{slice_cmp}
use Rattle.std.specs.FinMap.{get}
use Rattle.cp_tables.specs.declared.exchange.Exchange.{Exchange}
use Rattle.cp_refs.specs.declared.cap.Cap.{Cap}
use Rattle.cp_refs.specs.declared.cap.Cap.TheVariants as caps
use Rattle.cp_refs.specs.declared.call.Origin.{Origin}
use Rattle.cp_refs.specs.declared.call.Origin.TheVariants as origins
use Rattle.cp_vat_machine.specs.State.{State}
use Rattle.cp_vat_machine.specs.Calling.{came_to, reference_of}
use Rattle.cp_vat_machine.specs.Run.{Moment}
use Rattle.cp_vat_machine.specs.declared.effect.Effect.{Effect}
use Rattle.cp_vat_machine.specs.declared.effect.Effect.TheVariants as effects
use Rattle.cp_vat_machine.specs.declared.entry.QuestionEntry.{QuestionEntry}
use Rattle.cp_vat_machine.specs.declared.event.Event.{Event}
use Rattle.cp_vat_machine.specs.declared.event.Event.TheVariants as events
use Rattle.cp_vat_machine.specs.declared.event.Value.{Value}
use Rattle.cp_vat_machine.specs.declared.fault.VatFault.{VatFault}
use Rattle.cp_vat_pair_laws.specs.VatPair.{VatPair, Side, at_first, at_second, across, end_of, Move}

-- A reference of a vat: an import, or a question with a path. Where nothing is finished or released, each number is one for good.
-- Where a number is used again, it is that of the moves after its former life.
pub data Reference : Type 0 where
  import_ : ℕ → Reference
  path_to : ℕ → List ℕ → Reference

abbrev pub cap_of : Reference → Cap
cap_of (import_ i) = caps.Import i
cap_of (path_to q path) = caps.Pipelined q path

abbrev pub is_same_path : List ℕ → List ℕ → Bool
is_same_path path other = eq_by_cmp (slice_cmp nat_cmp) path other

abbrev pub names : Reference → Cap → Bool
names (import_ i) (caps.Import j) = j == i
names (path_to q path) (caps.Pipelined p other) = (p == q) && is_same_path other path
names ref other = false

-- the reference came to this
abbrev pub CameTo : State → Reference → Cap → Type 0
CameTo s ref value = reference_of s.values (cap_of ref) ≡ came_to value

-- they are one side
abbrev pub is_side : Side → Side → Bool
is_side at_first at_first = true
is_side at_second at_second = true
is_side one other = false

-- the ticket of a call that its application makes on the reference, if it isn't refused
abbrev pub ticket_if : Result Value VatFault → ℕ → List ℕ
ticket_if (Ok value) ticket = ticket ∷ []
ticket_if (Err fault) ticket = []

abbrev pub called_on : Reference → Event → Bool
called_on ref (events.Call cap request) = names ref cap
called_on ref other = false

abbrev pub made_by : State → Reference → Moment → List ℕ
made_by s ref moment = if called_on ref moment.event then ticket_if moment.result s.next_ticket else []

-- Made: the tickets of the vat's own calls on the reference, in order.
abbrev pub made : VatPair → Side → Reference → List Move → List ℕ
made w side ref [] = []
made w side ref (move ∷ more) =
    (if is_side move.side side then made_by (end_of w side).vat ref move.moment else []) ++ made move.after side ref more

-- the ticket of an own call, by its question
abbrev pub ticket_of_own : Option ℕ → Option ℕ → List ℕ
ticket_of_own None ticket = option_to_list ticket
ticket_of_own (Some answer) ticket = []

abbrev pub own_ticket : Option (Exchange QuestionEntry) → List ℕ
own_ticket None = []
own_ticket (Some entry) = ticket_of_own entry.kept.forwards entry.kept.ticket

-- the answer that a question gives, if it forwards a call
abbrev pub answer_forwarded : Option (Exchange QuestionEntry) → List ℕ
answer_forwarded None = []
answer_forwarded (Some entry) = option_to_list entry.kept.forwards

-- The own call that a call of the peer's stands for: the peer sent it for the call which that own call's Call opened there.
abbrev pub stands_for : State → State → ℕ → List ℕ
stands_for here there a = flat_map (λ question. own_ticket (get here.entries.questions question)) (answer_forwarded (get there.entries.questions a))

-- the own ticket that a delivered call bears, or stands for
abbrev pub ticket_borne : State → State → Origin → ℕ → List ℕ
ticket_borne here there (origins.Own q) ticket = ticket ∷ []
ticket_borne here there (origins.Answer a) ticket = stands_for here there a

-- a call that was delivered, by its own ticket, and the object that it went to
pub record Delivery : Type 0 where
  pub ticket : ℕ
  pub object : ℕ

abbrev pub delivery_of : State → State → Effect → List Delivery
delivery_of here there (effects.Deliver object origin ticket call) =
    map (λ own. record { ticket = own; object = object }) (ticket_borne here there origin ticket)
delivery_of here there other = []

abbrev pub deliveries_of : VatPair → Side → Move → List Delivery
deliveries_of w side move = if is_side move.side side then flat_map (delivery_of (end_of w side).vat (end_of w (across side)).vat) move.moment.effects else []

abbrev pub deliveries : VatPair → Side → List Move → List Delivery
deliveries w side [] = []
deliveries w side (move ∷ more) = deliveries_of w side move ++ deliveries move.after side more

-- Delivered: the calls delivered that were made on the reference, in order.
abbrev pub is_among : ℕ → List ℕ → Bool
is_among ticket tickets = list_any (λ other. other == ticket) tickets

abbrev pub delivered_among : List ℕ → List Delivery → List Delivery
delivered_among tickets all = filter (λ delivery. is_among delivery.ticket tickets) all

abbrev pub delivered_on : VatPair → Side → Reference → List Move → List Delivery
delivered_on w side ref moves = delivered_among (made w side ref moves) (deliveries w side moves)

abbrev pub tickets_of : List Delivery → List ℕ
tickets_of all = map (λ delivery. delivery.ticket) all

-- no application finishes, releases or forgets
abbrev pub IsStill : Event → Type 0
IsStill (events.Finish q) = ⊥
IsStill (events.Release i) = ⊥
IsStill (events.Forget p) = ⊥
IsStill other = Unit {0}

abbrev pub AreStill : List Move → Type 0
AreStill moves = AllByRecursion (λ move. IsStill move.moment.event) moves
