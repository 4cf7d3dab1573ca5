-- What a vat behind tail calls and its peer say to each other, by what tail calls did.
use Rattle.std.specs.Prelude.{◌≡◌, ℕ, Bool, List, [], ◌∷◌, ◌++◌, Option, Some, None, Ok}
use Rattle.cp_tables.specs.declared.exchange.Stage.{Stage}
use Rattle.cp_messages.specs.declared.call.Call.{Call}
use Rattle.cp_messages.specs.declared.message.Message.{Message}
use Rattle.cp_vat_machine.specs.Run.{Moment}
use Rattle.cp_vat_machine.specs.State.{State}
use Rattle.cp_vat_machine.specs.declared.effect.Effect.{Effect}
use Rattle.cp_vat_machine.specs.declared.effect.Effect.TheVariants as effects
use Rattle.cp_vat_machine.specs.declared.event.Event.{Event}
use Rattle.cp_vat_machine.specs.declared.event.Event.TheVariants as events
use Rattle.cp_vat_machine.specs.declared.event.Value.{Value}
use Rattle.cp_tail_calls.specs.declared.forwarding.ForwardedMessage.TheVariants as owed
use Rattle.cp_tail_calls.specs.Runs.{Turn, came, went, passed, Did}
use Rattle.cp_tail_calls.specs.Serving.{Served, Serves}
use Rattle.cp_tail_calls.specs.Tails.{Tails}

-- the message, if there is one
abbrev pub if_any : Option Message → List Message
if_any None = []
if_any (Some m) = m ∷ []

-- what the peer said, and what the vat got
abbrev pub said : Turn → List Message
said (came acts_on stage m on) = m ∷ []
said other = []

abbrev pub got : Turn → List Message
got (came acts_on stage m on) = if_any on
got (passed stage (owed.ToVat m)) = m ∷ []
got other = []

-- what the vat answered, and what the peer heard
abbrev pub answered : Turn → List Message
answered (went trigger m on) = m ∷ []
answered other = []

abbrev pub heard : Turn → List Message
heard (went trigger m on) = if_any on
heard (passed stage (owed.ToPeer m)) = m ∷ []
heard other = []

-- these, in all turns, the oldest first
abbrev pub in_all : (Turn → List Message) → List Turn → List Message
in_all tells [] = []
in_all tells (turn ∷ past) = in_all tells past ++ tells turn

-- the messages that events are, and those that effects send, up to the vat's closing
abbrev pub message_of : Event → List Message
message_of (events.Receive m) = m ∷ []
message_of other = []

abbrev pub messages_of : List Moment → List Message
messages_of [] = []
messages_of (moment ∷ more) = message_of moment.event ++ messages_of more

abbrev pub sent_of : List Effect → List Message
sent_of [] = []
sent_of (effects.Send m ∷ more) = m ∷ sent_of more
sent_of (effects.Closed reason ∷ more) = []
sent_of (other ∷ more) = sent_of more

abbrev pub sent_in : List Moment → List Message
sent_in [] = []
sent_in (moment ∷ more) = sent_of moment.effects ++ sent_in more

-- Tail calls went on from these turns to those: the peer said these messages more, the vat got and answered those of this history, and the peer heard these.
pub record GoesOn (past : List Turn) (by : List Message) (history : List Moment) (out : List Effect) (new : List Turn) : Type 0 where
  pub said_more : in_all said new ≡ in_all said past ++ by
  pub got_more : in_all got new ≡ in_all got past ++ messages_of history
  pub answered_more : in_all answered new ≡ in_all answered past ++ sent_in history
  pub heard_more : in_all heard new ≡ in_all heard past ++ sent_of out

-- the tail calls before a vat did these
abbrev pub HaveDone : Served → List Turn → Type 0
HaveDone s past = (t : Tails) × (s.tails ≡ Some t) × Did past t

-- Whatever event a vat behind tail calls does, tail calls go on by turns: what the vat gets and answers, and what the peer says and hears, are what those turns
-- say. So what is shown of turns holds of it.
abbrev pub BridgesTurns : Type 0
BridgesTurns =
    (acts_on : Call → Bool) (stage_of : State → ℕ → Option Stage) (old new : Served) (event : Event) (value : Value) (history : List Moment) (out : List Effect)
    (past : List Turn) → HaveDone old past → Serves acts_on stage_of old event (Ok value) history out new
    → (turns : List Turn) × HaveDone new turns × GoesOn past (message_of event) history out turns
