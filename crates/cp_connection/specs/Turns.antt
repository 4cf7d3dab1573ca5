-- What a connection and its vat said to each other, by turns of tail calls.
use Rattle.std.specs.Prelude.{◌≡◌, ◌≢◌, false, List, [], ◌∷◌, ◌++◌, Result, Ok, Err}
use Rattle.cp_messages.specs.declared.message.Message.{Message}
use Rattle.cp_vat_machine.specs.Run.{Moment}
use Rattle.cp_vat_machine.specs.declared.event.Event.{Event}
use Rattle.cp_vat_machine.specs.declared.event.Value.{Value}
use Rattle.cp_vat_machine.specs.declared.fault.VatFault.{VatFault}
use Rattle.cp_vat_machine.specs.declared.fault.VatFault.TheVariants as refusals
use Rattle.cp_tail_calls.specs.Bridging.{HaveDone, answered, got, heard, in_all, messages_of, said, sent_in}
use Rattle.cp_tail_calls.specs.Runs.{Turn}
use Rattle.cp_tail_calls.specs.Serving.{Served, is_message}

-- the vat did the event, or refused a call, and memory didn't run out
abbrev pub IsKept : Event → Result Value VatFault → Type 0
IsKept event (Ok value) = Unit {0}
IsKept event (Err fault) = (is_message event ≡ false) × (fault ≢ refusals.OutOfMemory)

-- so it was of each event
abbrev pub NoneLost : List Moment → Type 0
NoneLost [] = Unit {0}
NoneLost (moment ∷ more) = IsKept moment.event moment.result × NoneLost more

-- From these turns to those the peer said the messages that came, the vat got and answered those of the history, and the peer heard what went out.
pub record Tells (past : List Turn) (came : List Message) (history : List Moment) (went : List Message) (turns : List Turn) : Type 0 where
  pub said_more : in_all said turns ≡ in_all said past ++ came
  pub got_more : in_all got turns ≡ in_all got past ++ messages_of history
  pub answered_more : in_all answered turns ≡ in_all answered past ++ sent_in history
  pub heard_more : in_all heard turns ≡ in_all heard past ++ went

-- tail calls went on so, and this is what they came to
abbrev pub TellTurns : List Turn → List Message → List Moment → List Message → Served → Type 0
TellTurns past came history went new = (turns : List Turn) × HaveDone new turns × Tells past came history went turns
