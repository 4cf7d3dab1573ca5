-- Rules of the machine, met by functions that may run out of memory.
use Rattle.std.specs.Prelude.{◌≡◌, List, [], ◌++◌, Result, Ok, Err}
use Rattle.cp_tables.specs.declared.fault.TableFault.{TableFault}
use Rattle.cp_tables.specs.declared.fault.TableFault.TheVariants as table_faults
use Rattle.cp_vat_machine.specs.State.{State}
use Rattle.cp_vat_machine.specs.Then.{Done}
use Rattle.cp_vat_machine.specs.Calling.{OwnDone}
use Rattle.cp_vat_machine.specs.declared.event.Value.{Value}
use Rattle.cp_vat_machine.specs.declared.effect.Effect.{Effect}
use Rattle.cp_vat_machine.specs.declared.fault.PeerFault.{PeerFault}
use Rattle.cp_vat_machine.specs.declared.fault.PeerFault.TheVariants as faults
use Rattle.cp_vat_machine.specs.declared.fault.VatFault.{VatFault}
use Rattle.cp_vat_machine.specs.declared.fault.VatFault.TheVariants as refusals
use Rattle.cp_vat_state.specs.declared.step_fault.StepFault.{StepFault}
use Rattle.cp_vat_state.specs.declared.step_fault.StepFault.TheVariants as halts

-- the peer's fault that a table's fault is
abbrev pub step_fault_of : TableFault → StepFault
step_fault_of table_faults.Taken = halts.Fault faults.QuestionInUse
step_fault_of table_faults.Unknown = halts.Fault faults.UnknownExport
step_fault_of table_faults.TooMany = halts.Fault faults.ReleaseTooLarge
step_fault_of table_faults.Full = halts.Fault faults.TableFull
step_fault_of table_faults.OutOfMemory = halts.OutOfMemory

-- what a call of the application is refused for by a rule's fault
abbrev pub refusal_of : StepFault → VatFault
refusal_of (halts.Fault fault) = refusals.Full
refusal_of halts.OutOfMemory = refusals.OutOfMemory

-- what was done, or the fault that was met, is what the rule says; where memory ran out anything is
abbrev pub Meets : {A : Type 0} → (Result A PeerFault → Type 0) → Result A StepFault → Type 0
Meets Rule (Ok x) = Rule (Ok x)
Meets Rule (Err (halts.Fault fault)) = Rule (Err fault)
Meets Rule (Err halts.OutOfMemory) = Unit {0}

-- so with the state that was left
abbrev pub Leaves : {A : Type 0} → (Result (A × State) PeerFault → Type 0) → Result A StepFault → State → Type 0
Leaves Rule (Ok x) new = Rule (Ok (x, new))
Leaves Rule (Err (halts.Fault fault)) new = Rule (Err fault)
Leaves Rule (Err halts.OutOfMemory) new = Unit {0}

-- so with the effects after those before it
abbrev pub Acts : (Result Done PeerFault → Type 0) → Result (Unit {0}) StepFault → List Effect → List Effect → State → Type 0
Acts Rule (Ok x) before after new = (first : List Effect) × (after ≡ before ++ first) × Rule (Ok (first, new))
Acts Rule (Err (halts.Fault fault)) before after new = Rule (Err fault)
Acts Rule (Err halts.OutOfMemory) before after new = Unit {0}

-- what is left, where the call didn't fail
abbrev pub leaving : {A S F : Type 0} → Result A F → S → Result S F
leaving (Ok x) new = Ok new
leaving (Err fault) new = Err fault

-- so of a rule without effects
abbrev pub Quiet : (Result Done PeerFault → Type 0) → Result (Unit {0}) StepFault → State → Type 0
Quiet Rule (Ok x) new = Rule (Ok ([], new))
Quiet Rule (Err (halts.Fault fault)) new = Rule (Err fault)
Quiet Rule (Err halts.OutOfMemory) new = Unit {0}

-- so of a call of the application, which gives a value; where a fault refuses it nothing changes
abbrev pub Owns : {A : Type 0} → (Result OwnDone PeerFault → Type 0) → (A → Value) → State → Result A StepFault → List Effect → List Effect → State → Type 0
Owns Rule value old (Ok x) before after new = (first : List Effect) × (after ≡ before ++ first) × Rule (Ok (value x, first, new))
Owns Rule value old (Err (halts.Fault fault)) before after new = Rule (Err fault) × (new ≡ old)
Owns Rule value old (Err halts.OutOfMemory) before after new = Unit {0}

-- where a fault was met this holds
abbrev pub IfFault : {A : Type 0} → Result A StepFault → Type 0 → Type 0
IfFault (Ok x) Holds = Unit {0}
IfFault (Err (halts.Fault fault)) Holds = Holds
IfFault (Err halts.OutOfMemory) Holds = Unit {0}

-- nothing but an allocation failure stops it
abbrev pub OnlyAllocationFails : {A : Type 0} → Result A StepFault → Type 0
OnlyAllocationFails (Ok x) = Unit {0}
OnlyAllocationFails (Err (halts.Fault fault)) = ⊥
OnlyAllocationFails (Err halts.OutOfMemory) = Unit {0}

-- so of a rule that only leaves a state
abbrev pub Becomes : Result State PeerFault → Result (Unit {0}) StepFault → State → Type 0
Becomes told (Ok x) new = told ≡ Ok new
Becomes told (Err (halts.Fault fault)) new = told ≡ Err fault
Becomes told (Err halts.OutOfMemory) new = Unit {0}
