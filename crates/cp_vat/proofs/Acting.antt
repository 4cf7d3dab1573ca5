-- What follows for one rule from what was done by another.
use Rattle.std.proofs.Common.{List, Result, Ok, Err}
use Rattle.cp_vat_machine.specs.State.{State}
use Rattle.cp_vat_machine.specs.Then.{Done}
use Rattle.cp_vat_machine.specs.declared.effect.Effect.{Effect}
use Rattle.cp_vat_machine.specs.declared.fault.PeerFault.{PeerFault}
use Rattle.cp_vat_state.specs.Halts.{Acts}
use Rattle.cp_vat_state.specs.declared.step_fault.StepFault.{StepFault}
use Rattle.cp_vat_state.specs.declared.step_fault.StepFault.TheVariants as halts

-- what meets one rule meets another that it follows from
pub acts_by : (R Q : Result Done PeerFault → Type 0) (r : Result (Unit {0}) StepFault) (before after : List Effect) (new : State) → ((out : Result Done PeerFault) → R out → Q out)
    → Acts R r before after new → Acts Q r before after new
acts_by R Q (Ok x) before after new on h = (h.0, h.1, on _ h.2)
acts_by R Q (Err (halts.Fault fault)) before after new on h = on _ h
acts_by R Q (Err halts.OutOfMemory) before after new on h = tt
