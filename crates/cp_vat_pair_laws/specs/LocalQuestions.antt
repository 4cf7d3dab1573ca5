-- Local questions, whose Call wasn't sent, by the application's calls and what it was told. (rpc.capnp: "Four Tables", "Finish".)
use Rattle.std.specs.Prelude.{ℕ, ◌==◌, if◌then◌else◌, Bool, true, false, List, [], ◌∷◌, Option, Some, None, Result, Ok, Err}
use Rattle.cp_tables.specs.declared.exchange.Stage.{Stage}
use Rattle.cp_tables.specs.declared.exchange.Stage.TheVariants as stages
use Rattle.cp_refs.specs.declared.call.Origin.TheVariants as origins
use Rattle.cp_vat_machine.specs.Run.{Moment}
use Rattle.cp_vat_machine.specs.declared.effect.Effect.{Effect}
use Rattle.cp_vat_machine.specs.declared.effect.Effect.TheVariants as effects
use Rattle.cp_vat_machine.specs.declared.event.Event.{Event}
use Rattle.cp_vat_machine.specs.declared.event.Event.TheVariants as events
use Rattle.cp_vat_machine.specs.declared.event.Value.{Value}
use Rattle.cp_vat_machine.specs.declared.event.Value.TheVariants as values
use Rattle.cp_vat_machine.specs.declared.fault.VatFault.{VatFault}
use Rattle.cp_vat_pair_laws.specs.Ledger.{opens, stage_returned, stage_finished}

-- A local question's stage, which is none where there is no such question, and whether its call was delivered to an object of the application.
pub record LocalQuestion : Type 0 where
  pub stage : Option Stage
  pub is_delivered : Bool

abbrev pub no_question : LocalQuestion
no_question = record { stage = None; is_delivered = false }

-- it is asked
abbrev pub asked : LocalQuestion
asked = record { stage = Some stages.Open; is_delivered = false }

-- its outcome came: if it was finished, it is gone
abbrev pub settled : LocalQuestion → LocalQuestion
settled question = record question { stage = stage_returned question.stage }

-- it was finished: if its outcome came, it is gone
abbrev pub finished : LocalQuestion → LocalQuestion
finished question = record question { stage = stage_finished question.stage }

-- its call was delivered
abbrev pub delivered : LocalQuestion → LocalQuestion
delivered question = record question { is_delivered = true }

-- its Call was sent: it is a question of the wire from now on
abbrev pub sent : LocalQuestion → LocalQuestion
sent question = record question { stage = None }

-- What the application does with it: `call` asks it, `answer` gives its outcome, and `finish` finishes it.
abbrev pub after_event : ℕ → Event → Value → LocalQuestion → LocalQuestion
after_event q (events.Call cap request) (values.Question p) question = if p == q then asked else question
after_event q (events.Answer (origins.Own p) outcome) value question = if p == q then settled question else question
after_event q (events.Finish p) value question = if p == q then finished question else question
after_event q event value question = question

-- What an effect tells of it: a Settled reports its outcome, a Deliver hands its call to an object, and a Send may be of its Call.
abbrev pub after_effect : ℕ → Effect → LocalQuestion → LocalQuestion
after_effect q (effects.Settled p outcome) question = if p == q then settled question else question
after_effect q (effects.Deliver object (origins.Own p) ticket request) question = if p == q then delivered question else question
after_effect q (effects.Send m) question = if opens q m then sent question else question
after_effect q effect question = question

abbrev pub after_effects : ℕ → List Effect → LocalQuestion → LocalQuestion
after_effects q [] question = question
after_effects q (effect ∷ more) question = after_effects q more (after_effect q effect question)

-- In a moment the application does something, unless it is refused, and then the effects are told.
abbrev pub after_step : ℕ → Event → Result Value VatFault → List Effect → LocalQuestion → LocalQuestion
after_step q event (Ok value) effects question = after_effects q effects (after_event q event value question)
after_step q event (Err fault) effects question = question

abbrev pub after_moments : ℕ → List Moment → LocalQuestion → LocalQuestion
after_moments q [] question = question
after_moments q (moment ∷ more) question = after_moments q more (after_step q moment.event moment.result moment.effects question)

-- the question of this number after a whole history
abbrev pub local_question : List Moment → ℕ → LocalQuestion
local_question history q = after_moments q history no_question

-- No outcome is reported of a question that was finished before it came. So it stands as long as its call is under way.
abbrev pub while_called : Bool → Option Stage → Option Stage
while_called false (Some stages.Finished) = None
while_called is_called stage = stage
