-- Calls on their way.
use Rattle.std.specs.Prelude.{◌≡◌, ◌<◌, List, ◌++◌, None, Result, Ok, Err}
use Rattle.std.specs.FinMap.{get}
use Rattle.cp_vat_machine.specs.State.{State}
use Rattle.cp_vat_machine.specs.Go.{Leave}
use Rattle.cp_vat_machine.specs.Go as machine
use Rattle.cp_vat_machine.specs.declared.effect.Effect.{Effect}
use Rattle.cp_vat_state.specs.declared.step_fault.StepFault.{StepFault}
use Rattle.cp_vat_state.specs.declared.step_fault.StepFault.TheVariants as halts
use Rattle.cp_vat_rules.specs.Ungiven.{AllEnd, IsUngiven}
use Rattle.cp_vat_rules.specs.declared.go.PendingCall.{PendingCall}

abbrev pub pending_call_of : PendingCall → machine.PendingCall
pending_call_of call = record { ticket = call.ticket; origin = call.origin; request = call.request }

-- A call may go: its ticket was given and no waiting call has it, its outcome isn't given, and the ways of what it names end.
pub record MayGo (s : State) (call : machine.PendingCall) : Type 0 where
  pub free : get s.waiting.calls call.ticket ≡ None
  pub given : call.ticket < s.next_ticket
  pub ungiven : IsUngiven s call.origin
  pub ends : AllEnd s.values call.request.caps

-- Waiting calls left, with their effects after those before them; or one found a table full.
abbrev pub AllLeave : State → Result (Unit {0}) StepFault → List Effect → List Effect → State → Type 0
AllLeave old (Ok x) before after new = (rest : List Effect) × (after ≡ before ++ rest) × Leave old rest (Ok new)
AllLeave old (Err (halts.Fault fault)) before after new = (rest : List Effect) × (after ≡ before ++ rest) × Leave old rest (Err fault)
AllLeave old (Err halts.OutOfMemory) before after new = Unit {0}
