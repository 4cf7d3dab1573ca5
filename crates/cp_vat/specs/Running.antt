-- What a list of events gives that one vat does.
use Rattle.std.specs.Prelude.{◌≡◌, ◌⊎◌, ℕ, ◌≤◌, List, [], ◌∷◌, length, drop, Option, Some, None, Result, Ok, Err}
use Rattle.cp_vat_machine.specs.State.{State}
use Rattle.cp_vat_machine.specs.Step.{Step}
use Rattle.cp_vat_machine.specs.Run.{Moment, Steps, Run}
use Rattle.cp_vat_machine.specs.Trace.{trace_of}
use Rattle.cp_vat_machine.specs.InOrder.{InOrder}
use Rattle.cp_vat_machine.specs.declared.acted.Acted.{Acted}
use Rattle.cp_vat_machine.specs.declared.event.Event.{Event}
use Rattle.cp_vat_machine.specs.declared.event.Value.{Value}
use Rattle.cp_vat_machine.specs.declared.fault.VatFault.{VatFault}
use Rattle.cp_vat_machine.specs.declared.fault.VatFault.TheVariants as refusals
use Rattle.cp_vat.specs.Stepping.{answered, effects_of}

-- the same answer and the same effects, with the value as one of all
abbrev pub Restates : {A : Type 0} → (A → Value) → Result (Acted A) VatFault → Result (Acted Value) VatFault → Type 0
Restates value given result = (answered (λ one. one) result ≡ answered value given) × (effects_of result ≡ effects_of given)

-- an event that was done, with its answer and its effects
abbrev pub moment_of : Event → Acted Value → Moment
moment_of event acted = record { event = event; result = Ok acted.value; effects = acted.effects }

-- events, each with what it gave
abbrev pub moments : List Event → List (Acted Value) → List Moment
moments [] done = []
moments (event ∷ more) [] = []
moments (event ∷ more) (acted ∷ done) = moment_of event acted ∷ moments more done

-- The next event was refused, as a step of the vat.
abbrev pub IsRefused : State → List Event → VatFault → Type 0
IsRefused last [] fault = ⊥
IsRefused last (event ∷ more) fault = (new : State) × Step last event (Err fault) [] new

-- There was no memory for what the events give, and so none was done.
abbrev pub HadNoMemory : ℕ → VatFault → Type 0
HadNoMemory number fault = (number ≡ 0) × (fault ≡ refusals.OutOfMemory)

-- How events ended of which a number was done and others were left: none was left, or the first of these was refused, which is reported with its place.
abbrev pub EndsBy : State → ℕ → List Event → Option (ℕ × VatFault) → Type 0
EndsBy last number left None = left ≡ []
EndsBy last number left (Some refused) = (refused.0 ≡ number) × (IsRefused last left refused.1 ⊎ HadNoMemory number refused.1)

-- A vat did the first of these events, each with its answer and its effects, up to the first that was refused.
pub record Continues (old : State) (events : List Event) (done : List (Acted Value)) (refused : Option (ℕ × VatFault)) : Type 0 where
  pub last : State
  pub steps : Steps old (moments events done) last
  pub within : length done ≤ length events
  pub ends : EndsBy last (length done) (drop (length done) events) refused

-- What a new vat did of these events is a run of it, up to the first that was refused, and its turns are in order.
pub record Runs (bootstrap : Option ℕ) (events : List Event) (done : List (Acted Value)) (refused : Option (ℕ × VatFault)) : Type 0 where
  pub run : Run bootstrap (moments events done)
  pub in_order : InOrder (trace_of bootstrap (moments events done) run)
  pub within : length done ≤ length events
  pub ends : EndsBy run.0 (length done) (drop (length done) events) refused
