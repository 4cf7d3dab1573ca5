-- Two vats and the messages between them. (rpc.capnp: a connection of two parties, whose messages come in the order in which they were sent.)
use Rattle.std.specs.Prelude.{◌≡◌, ℕ, false, List, [], ◌∷◌, ◌++◌, flat_map, Option}
use Rattle.cp_messages.specs.declared.message.Message.{Message}
use Rattle.cp_vat_machine.specs.State.{State, new_state}
use Rattle.cp_vat_machine.specs.Step.{Step}
use Rattle.cp_vat_machine.specs.Run.{Moment}
use Rattle.cp_vat_machine.specs.declared.effect.Effect.{Effect}
use Rattle.cp_vat_machine.specs.declared.effect.Effect.TheVariants as effects
use Rattle.cp_vat_machine.specs.declared.event.Event.{Event}
use Rattle.cp_vat_machine.specs.declared.event.Event.TheVariants as events

-- One end of a connection: its vat, and the messages to it that were sent and haven't come, in order.
pub record End : Type 0 where
  pub vat : State
  pub inbox : List Message

-- the two ends
pub record VatPair : Type 0 where
  pub first : End
  pub second : End

pub data Side : Type 0 where
  at_first : Side
  at_second : Side

abbrev pub across : Side → Side
across at_first = at_second
across at_second = at_first

abbrev pub end_of : VatPair → Side → End
end_of w at_first = w.first
end_of w at_second = w.second

-- two new vats, each with its bootstrap object or none, and no message on the way
abbrev pub new_end : Option ℕ → End
new_end bootstrap = record { vat = new_state bootstrap; inbox = [] }

abbrev pub new_pair : Option ℕ → Option ℕ → VatPair
new_pair one other = record { first = new_end one; second = new_end other }

-- A move: the side at which it is made, the event with its answer and its effects, and the pair after it.
pub record Move : Type 0 where
  pub side : Side
  pub moment : Moment
  pub after : VatPair

-- the messages that effects send
abbrev pub message_sent : Effect → List Message
message_sent (effects.Send m) = m ∷ []
message_sent other = []

abbrev pub messages_sent : List Effect → List Message
messages_sent effects = flat_map message_sent effects

-- A message comes from the front of those on the way. A call of the application takes none.
abbrev pub Takes : List Message → Event → List Message → Type 0
Takes inbox (events.Receive m) rest = inbox ≡ m ∷ rest
Takes inbox call rest = rest ≡ inbox

-- messages go to an end, after those on the way
abbrev pub with_mail : End → List Message → End
with_mail there messages = record there { inbox = there.inbox ++ messages }

-- The vat of one side makes a step: its application calls, or it receives the front of the messages to it. What it sends goes to the other end.
pub record Makes (old : VatPair) (move : Move) : Type 0 where
  pub steps : Step (end_of old move.side).vat move.moment.event move.moment.result move.moment.effects (end_of move.after move.side).vat
  pub takes : Takes (end_of old move.side).inbox move.moment.event (end_of move.after move.side).inbox
  pub sends : end_of move.after (across move.side) ≡ with_mail (end_of old (across move.side)) (messages_sent move.moment.effects)

-- moves one after another, and the pair after them
abbrev pub Moves : VatPair → List Move → Type 0
Moves old [] = Unit {0}
Moves old (move ∷ more) = Makes old move × Moves move.after more

abbrev pub last_of : VatPair → List Move → VatPair
last_of old [] = old
last_of old (move ∷ more) = last_of move.after more

-- Neither vat is closed. A closed vat stays so, and one whose memory ran out is closed: so none was, and none did.
abbrev pub AreOpen : VatPair → Type 0
AreOpen w = (w.first.vat.is_closed ≡ false) × (w.second.vat.is_closed ≡ false)

-- no message is on the way
abbrev pub AreQuiet : VatPair → Type 0
AreQuiet w = (w.first.inbox ≡ []) × (w.second.inbox ≡ [])
