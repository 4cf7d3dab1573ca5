-- Calls whose params are lent.
use Rattle.std.specs.Prelude.{◌≡◌, List, [], ◌∷◌, ◌++◌, Option, Some, None, Result, Ok, Err}
use Rattle.cp_refs.specs.declared.call.Request.{Request}
use Rattle.cp_vat_machine.specs.State.{State}
use Rattle.cp_vat_machine.specs.Then.{Done}
use Rattle.cp_vat_machine.specs.declared.acted.Acted.{Acted}
use Rattle.cp_vat_machine.specs.declared.effect.Effect.{Effect}
use Rattle.cp_vat_machine.specs.declared.effect.Effect.TheVariants as effects
use Rattle.cp_vat_machine.specs.declared.fault.PeerFault.{PeerFault}
use Rattle.cp_vat_machine.specs.declared.fault.VatFault.{VatFault}
use Rattle.cp_vat_state.specs.declared.step_fault.StepFault.{StepFault}
use Rattle.cp_vat_state.specs.declared.step_fault.StepFault.TheVariants as halts
use Rattle.cp_vat.specs.Stepping.{Ends, MessageEnds}
use Rattle.cp_vat.specs.declared.borrowed_call.BorrowedCall.{BorrowedCall}

-- what a call asks for that is lent
abbrev pub asked_by : BorrowedCall → Request
asked_by lent = record { interface = lent.interface; method = lent.method; content = lent.content; caps = lent.caps }

-- a call that is lent is delivered to its object
abbrev pub deliveries : Option BorrowedCall → List Effect
deliveries None = []
deliveries (Some lent) = effects.Deliver lent.object lent.origin lent.ticket (asked_by lent) ∷ []

-- the call that is lent is delivered, if there is one, and then come the other effects
abbrev pub effects_lending : Result (Acted (Option BorrowedCall)) VatFault → List Effect
effects_lending (Ok acted) = deliveries acted.value ++ acted.effects
effects_lending (Err fault) = []

-- What was done is what the rule says, where the first of its effects is that what was lent is delivered, and the others come after those before them; or a
-- fault was met.
abbrev pub ActsLending : (Result Done PeerFault → Type 0) → Result (Option BorrowedCall) StepFault → List Effect → List Effect → State → Type 0
ActsLending Rule (Ok lent) before after new = (first : List Effect) × (after ≡ before ++ first) × Rule (Ok (deliveries lent ++ first, new))
ActsLending Rule (Err (halts.Fault fault)) before after new = Rule (Err fault)
ActsLending Rule (Err halts.OutOfMemory) before after new = Unit {0}

-- nothing is lent
abbrev pub lending_none : Result (Acted (Option BorrowedCall)) VatFault → Result (Acted (Unit {0})) VatFault
lending_none (Ok acted) = Ok (record { value = tt; effects = acted.effects })
lending_none (Err fault) = Err fault

abbrev pub LendsNone : Result (Acted (Option BorrowedCall)) VatFault → Type 0
LendsNone (Ok acted) = acted.value ≡ None
LendsNone (Err fault) = Unit {0}

-- A message ends as others do, and what it lends is lent. Where a fault was met nothing is.
abbrev pub LendingEnds : State → Result (Option BorrowedCall) StepFault → List Effect → Result (Acted (Option BorrowedCall)) VatFault → State → Type 0
LendingEnds mid (Ok lent) before result new = Ends mid lent before result new
LendingEnds mid (Err step_fault) before result new = LendsNone result × MessageEnds mid (Err step_fault) before (lending_none result) new
