-- Runs of a vat.
use Rattle.std.specs.Prelude.{◌≡◌, ℕ, List, [], ◌∷◌, Option, Result}
use Rattle.cp_vat_machine.specs.State.{State, new_state}
use Rattle.cp_vat_machine.specs.Step.{Step}
use Rattle.cp_vat_machine.specs.declared.effect.Effect.{Effect}
use Rattle.cp_vat_machine.specs.declared.event.Event.{Event}
use Rattle.cp_vat_machine.specs.declared.event.Value.{Value}
use Rattle.cp_vat_machine.specs.declared.fault.VatFault.{VatFault}

-- an event, what it was answered with, and its effects in order
pub record Moment : Type 0 where
  pub event : Event
  pub result : Result Value VatFault
  pub effects : List Effect

-- steps one after another
abbrev pub Steps : State → List Moment → State → Type 0
Steps old [] new = new ≡ old
Steps old (moment ∷ more) new = (mid : State) × Step old moment.event moment.result moment.effects mid × Steps mid more new

-- A run of a new vat: the events, each with its answer and its effects.
abbrev pub Run : Option ℕ → List Moment → Type 0
Run bootstrap history = (last : State) × Steps (new_state bootstrap) history last
