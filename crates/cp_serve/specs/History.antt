-- What a server's vat did, event by event.
use Rattle.std.specs.Prelude.{◌≡◌, List, [], ◌∷◌, ◌++◌, Option, Some, None}
use Rattle.cp_messages.specs.declared.message.Message.{Message}
use Rattle.cp_vat_machine.specs.Run.{Moment, Steps}
use Rattle.cp_vat_machine.specs.State.{new_state}
use Rattle.cp_vat_machine.specs.declared.effect.Effect.{Effect}
use Rattle.cp_vat_machine.specs.declared.effect.Effect.TheVariants as effects
use Rattle.cp_vat_machine.specs.declared.effect.Reason.{Reason}
use Rattle.cp_vat_machine.specs.declared.event.Event.{Event}
use Rattle.cp_vat_machine.specs.declared.event.Event.TheVariants as events
use Rattle.cp_serve.specs.Work.{Work}

-- the message that an event is, before others
abbrev pub received_by : Event → List Message → List Message
received_by (events.Receive m) more = m ∷ more
received_by other more = more

-- the messages that were received, in order
abbrev pub received : List Moment → List Message
received [] = []
received (moment ∷ more) = received_by moment.event (received more)

-- all effects, in order
abbrev pub effects_of : List Moment → List Effect
effects_of [] = []
effects_of (moment ∷ more) = moment.effects ++ effects_of more

-- the messages that are sent before the vat closes, in order
abbrev pub sent_by : List Effect → List Message
sent_by [] = []
sent_by (effects.Send m ∷ more) = m ∷ sent_by more
sent_by (effects.Closed reason ∷ more) = []
sent_by (other ∷ more) = sent_by more

-- why the vat closed, if it did
abbrev pub closed_by : List Effect → Option Reason
closed_by [] = None
closed_by (effects.Closed reason ∷ more) = Some reason
closed_by (other ∷ more) = closed_by more

-- These messages were received and those sent in a run of a new vat, whose bootstrap object is object 0.
pub record IsRunOf (taken sent : List Message) (last : Work) : Type 0 where
  pub history : List Moment
  pub steps : Steps (new_state (Some 0)) history last.vat
  pub receives : received history ≡ taken
  pub sends : sent_by (effects_of history) ≡ sent
  pub reason : closed_by (effects_of history) ≡ last.closed
