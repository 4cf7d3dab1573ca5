-- What a call of the application is refused for where a rule meets a fault.
use Rattle.std.proofs.Common.{◌≡◌, List, Result, Ok, Err, refl, ap}
use Rattle.cp_vat_machine.specs.State.{State}
use Rattle.cp_vat_machine.specs.Then.{Done, Then, Unless, OrFull}
use Rattle.cp_vat_machine.specs.Calling.{OwnDone}
use Rattle.cp_vat_machine.specs.Doing.{Quietly}
use Rattle.cp_vat_machine.specs.declared.effect.Effect.{Effect}
use Rattle.cp_vat_machine.specs.declared.event.Value.{Value}
use Rattle.cp_vat_machine.specs.declared.event.Value.TheVariants as values
use Rattle.cp_vat_machine.specs.declared.fault.PeerFault.{PeerFault}
use Rattle.cp_vat_machine.specs.declared.fault.VatFault.{VatFault}
use Rattle.cp_vat_state.specs.Halts.{Acts, IfFault, Meets, Owns, refusal_of}
use Rattle.cp_vat_state.specs.StateOf.{state_of}
use Rattle.cp_vat_state.specs.declared.step_fault.StepFault.{StepFault}
use Rattle.cp_vat_state.specs.declared.step_fault.StepFault.TheVariants as halts
use Rattle.cp_vat_state.specs.declared.parts.Core.{Core}
use Rattle.cp_vat.specs.Judging.{judged}
use Rattle.cp_vat.specs.Stepping.{Calls}
use Rattle.cp_vat.proofs.Judged.{unless_passed}

-- what the first of two rules meets, both meet
pub first_halts : {A B : Type 0} (First : Result A PeerFault → Type 0) (next : A → Result B PeerFault → Type 0) (step_fault : StepFault) → Meets First (Err step_fault) → Meets (Then First next) (Err step_fault)
first_halts First next (halts.Fault fault) met = (Err fault, met, refl)
first_halts First next halts.OutOfMemory met = tt

-- a rule that meets a fault refuses the call
pub refused_by : {A : Type 0} (Rule : Result OwnDone PeerFault → Type 0) (value : A → Value) (old new : State) (step_fault : StepFault) (before after : List Effect)
    → Meets Rule (Err step_fault) → new ≡ old → Calls (OrFull Rule) value old (Err (refusal_of step_fault)) before after new
refused_by Rule value old new (halts.Fault fault) before after met same = ((Err fault, met, refl), same)
refused_by Rule value old new halts.OutOfMemory before after met same = tt

-- so where it is told that a fault leaves the parts as they were
pub refused_as_it_was : {A : Type 0} (Rule : Result OwnDone PeerFault → Type 0) (value : A → Value) (old new : Core) (step_fault : StepFault) (before after : List Effect)
    → Meets Rule (Err step_fault) → IfFault {A = A} (Err step_fault) (new ≡ old) → Calls (OrFull Rule) value (state_of old) (Err (refusal_of step_fault)) before after (state_of new)
refused_as_it_was Rule value old new (halts.Fault fault) before after met same = ((Err fault, met, refl), ap state_of same)
refused_as_it_was Rule value old new halts.OutOfMemory before after met same = tt

-- a rule that meets a fault refuses a call that passed the tests before it
pub owns_refused : {A : Type 0} (Rule : Result OwnDone PeerFault → Type 0) (value : A → Value) (old new : State) (step_fault : StepFault) (before after : List Effect) (tests : List VatFault)
    → Ok tt ≡ judged tests → Owns {A = A} Rule value old (Err step_fault) before after new → Calls {A = A} (Unless tests (OrFull Rule)) value old (Err (refusal_of step_fault)) before after new
owns_refused Rule value old new (halts.Fault fault) before after tests passed met = (unless_passed tests (OrFull Rule) _ passed (Err fault, met.0, refl), met.1)
owns_refused Rule value old new halts.OutOfMemory before after tests passed met = tt

pub acts_refused : (Rule : Result Done PeerFault → Type 0) (was now : Core) (step_fault : StepFault) (before after : List Effect) (tests : List VatFault)
    → Ok tt ≡ judged tests → Acts Rule (Err step_fault) before after (state_of now) → IfFault {A = Unit {0}} (Err step_fault) (now ≡ was)
    → Calls {A = Unit {0}} (Unless tests (OrFull (Quietly Rule))) (λ _. values.Nothing) (state_of was) (Err (refusal_of step_fault)) before after (state_of now)
acts_refused Rule was now (halts.Fault fault) before after tests passed met same = (unless_passed tests (OrFull (Quietly Rule)) _ passed (Err fault, (Err fault, met, refl), refl), ap state_of same)
acts_refused Rule was now halts.OutOfMemory before after tests passed met same = tt

-- so by a rule that follows from it
pub refused_on : {A : Type 0} (Rule Other : Result OwnDone VatFault → Type 0) (value : A → Value) (old new : State) (step_fault : StepFault) (before after : List Effect)
    → ((out : Result OwnDone VatFault) → Rule out → Other out) → Calls {A = A} Rule value old (Err (refusal_of step_fault)) before after new → Calls {A = A} Other value old (Err (refusal_of step_fault)) before after new
refused_on Rule Other value old new (halts.Fault fault) before after on met = (on _ met.0, met.1)
refused_on Rule Other value old new halts.OutOfMemory before after on met = tt
