-- What a call of a vat gave, as the machine says it.
use Rattle.std.specs.Prelude.{◌≡◌, ◌≢◌, true, false, List, [], ◌++◌, Result, Ok, Err}
use Rattle.cp_vat_machine.specs.State.{State}
use Rattle.cp_vat_machine.specs.Local.{Local}
use Rattle.cp_vat_machine.specs.Calling.{OwnDone}
use Rattle.cp_vat_machine.specs.Step.{Follows, aborts}
use Rattle.cp_vat_machine.specs.declared.acted.Acted.{Acted}
use Rattle.cp_vat_machine.specs.declared.effect.Effect.{Effect}
use Rattle.cp_vat_machine.specs.declared.event.Value.{Value}
use Rattle.cp_vat_machine.specs.declared.fault.VatFault.{VatFault}
use Rattle.cp_vat_machine.specs.declared.fault.VatFault.TheVariants as refusals
use Rattle.cp_vat_laws.specs.Sizes.{FitsOpen}
use Rattle.cp_vat_state.specs.declared.step_fault.StepFault.{StepFault}
use Rattle.cp_vat_state.specs.declared.step_fault.StepFault.TheVariants as halts

-- The vat rests: it holds what it keeps between events, unless it is closed.
abbrev pub BetweenEvents : State → Type 0
BetweenEvents s = s.is_closed ≡ false → Local s

-- Between events it rests, and what it keeps is within the sizes, so that each message that it will send can be written.
abbrev pub Stays : State → Type 0
Stays s = BetweenEvents s × FitsOpen s

module _ {A : Type 0} where
  -- the value, or the refusal
  abbrev pub answered : (A → Value) → Result (Acted A) VatFault → Result Value VatFault
  answered value (Ok acted) = Ok (value acted.value)
  answered value (Err fault) = Err fault

  -- the effects
  abbrev pub effects_of : Result (Acted A) VatFault → List Effect
  effects_of (Ok acted) = acted.effects
  effects_of (Err fault) = []

  -- The application's call does its own part, with its effects after those before it; a refusal is the rule's, and changes nothing.
  abbrev pub Calls : (Result OwnDone VatFault → Type 0) → (A → Value) → State → Result A VatFault → List Effect → List Effect → State → Type 0
  Calls Rule value old (Ok x) before after new = (first : List Effect) × (after ≡ before ++ first) × Rule (Ok (value x, first, new))
  Calls Rule value old (Err refusals.OutOfMemory) before after new = Unit {0}
  Calls Rule value old (Err fault) before after new = Rule (Err fault) × (new ≡ old)

  -- After what was done waiting calls left, with their effects after it; or memory ran out, and the vat is closed.
  abbrev pub Ends : State → A → List Effect → Result (Acted A) VatFault → State → Type 0
  Ends mid value before (Ok acted) new =
      (acted.value ≡ value) × ((rest : List Effect) × (acted.effects ≡ before ++ rest) × Follows mid rest new)
  Ends mid value before (Err fault) new = (fault ≡ refusals.OutOfMemory) × (new.is_closed ≡ true)

  -- So after a call of the application. One that was refused is answered by its refusal: an allocation failure closes the vat, and any other changes nothing.
  abbrev pub CallEnds : State → Result A VatFault → List Effect → Result (Acted A) VatFault → State → Type 0
  CallEnds mid (Ok value) before result new = Ends mid value before result new
  CallEnds mid (Err fault) before result new =
      (result ≡ Err fault) × (fault ≡ refusals.OutOfMemory → new.is_closed ≡ true) × (fault ≢ refusals.OutOfMemory → new ≡ mid)

-- So after a message. One at fault is answered by an Abort, and the vat is closed.
abbrev pub MessageEnds : State → Result (Unit {0}) StepFault → List Effect → Result (Acted (Unit {0})) VatFault → State → Type 0
MessageEnds mid (Ok value) before result new = Ends mid value before result new
MessageEnds mid (Err (halts.Fault fault)) before (Ok acted) new = (acted.effects ≡ aborts fault) × (new.is_closed ≡ true)
MessageEnds mid (Err (halts.Fault fault)) before (Err refusal) new = (refusal ≡ refusals.OutOfMemory) × (new.is_closed ≡ true)
MessageEnds mid (Err halts.OutOfMemory) before result new = (result ≡ Err refusals.OutOfMemory) × (new.is_closed ≡ true)
