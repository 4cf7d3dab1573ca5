-- What the parts of a vat do, as a rule on the state that they are.
use Rattle.std.specs.Prelude.{List, Result}
use Rattle.cp_vat_machine.specs.State.{State}
use Rattle.cp_vat_machine.specs.Then.{Done}
use Rattle.cp_vat_machine.specs.Calling.{OwnDone}
use Rattle.cp_vat_machine.specs.declared.effect.Effect.{Effect}
use Rattle.cp_vat_machine.specs.declared.event.Value.{Value}
use Rattle.cp_vat_machine.specs.declared.fault.PeerFault.{PeerFault}
use Rattle.cp_vat_machine.specs.declared.fault.VatFault.{VatFault}
use Rattle.cp_vat_state.specs.Halts.{Acts, Owns}
use Rattle.cp_vat_state.specs.StateOf.{state_of}
use Rattle.cp_vat_state.specs.declared.step_fault.StepFault.{StepFault}
use Rattle.cp_vat_state.specs.declared.parts.Core.{Core}
use Rattle.cp_vat.specs.Stepping.{Calls}

-- they act by a rule
abbrev pub ActsOn : (State → Result Done PeerFault → Type 0) → Core → Result (Unit {0}) StepFault → List Effect → List Effect → Core → Type 0
ActsOn Rule old result before after new = Acts (Rule (state_of old)) result before after (state_of new)

module _ {A : Type 0} where
  -- they do a call of the application by a rule
  abbrev pub CallsOn : (State → Result OwnDone VatFault → Type 0) → (A → Value) → Core → Result A VatFault → List Effect → List Effect → Core → Type 0
  CallsOn Rule value old result before after new = Calls (Rule (state_of old)) value (state_of old) result before after (state_of new)

  -- so the part of it that may meet a fault of the peer's
  abbrev pub OwnsOn : (State → Result OwnDone PeerFault → Type 0) → (A → Value) → Core → Result A StepFault → List Effect → List Effect → Core → Type 0
  OwnsOn Rule value old result before after new = Owns (Rule (state_of old)) value (state_of old) result before after (state_of new)
