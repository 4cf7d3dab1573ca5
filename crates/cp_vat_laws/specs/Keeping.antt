-- What each event keeps.
use Rattle.std.specs.Prelude.{◌≡◌, ℕ, false, List, [], Option, None, Result, Ok}
use Rattle.cp_messages.specs.declared.message.Message.{Message}
use Rattle.cp_refs.specs.declared.cap.Cap.{Cap}
use Rattle.cp_refs.specs.declared.call.WaitingCall.{WaitingCall}
use Rattle.cp_vat_machine.specs.State.{State, none_over, with_over, new_state}
use Rattle.cp_vat_machine.specs.Go.{NoneOver, IsNext, GoTo, without_call, underway, Leave}
use Rattle.cp_vat_machine.specs.declared.effect.Effect.{Effect}
use Rattle.cp_vat_machine.specs.Then.{Done}
use Rattle.cp_vat_machine.specs.Calling.{OwnDone}
use Rattle.cp_vat_machine.specs.Step.{Does, Receives, Step}
use Rattle.cp_vat_machine.specs.Run.{Moment, Steps}
use Rattle.cp_vat_machine.specs.Local.{Local}
use Rattle.cp_vat_machine.specs.declared.event.Event.{Event}
use Rattle.cp_vat_machine.specs.declared.event.Value.{Value}
use Rattle.cp_vat_machine.specs.declared.fault.VatFault.{VatFault}
use Rattle.cp_vat_laws.specs.Within.{Within}

-- What holds between events holds within one, before a gate is over.
abbrev pub LocalIsWithin : Type 0
LocalIsWithin = (s : State) → Local s → Within s None []

-- What holds within an event holds between events where no call's gate is over and the gates are forgotten.
abbrev pub WithinIsLocal : Type 0
WithinIsLocal = (s : State) → Within s None [] → NoneOver s → Local (with_over s none_over)

-- A turn of waiting calls keeps what holds within an event.
abbrev pub TurnKeeps : Type 0
TurnKeeps =
    (old mid : State) (call : WaitingCall) (cap : Cap) (first : List Effect) → Within old None [] → IsNext old call cap → GoTo (without_call old call) (underway call) cap (Ok (first, mid))
    → Within mid None []

-- So waiting calls that leave come to where it holds between events.
abbrev pub LeavesLocal : Type 0
LeavesLocal = (old last : State) (all : List Effect) → Within old None [] → Leave old all (Ok last) → Local last

-- After the own part of each event, from where it holds between events, it holds within one.
abbrev pub DoesWithin : Type 0
DoesWithin = (old : State) (event : Event) (done : OwnDone) → Local old → Does old event (Ok done) → Within done.2 None []

abbrev pub ReceivesWithin : Type 0
ReceivesWithin = (old : State) (m : Message) (done : Done) → Local old → Receives old m (Ok done) → Within done.1 None []

-- So each step that leaves the vat open keeps what holds between events.
abbrev pub StepKeeps : Type 0
StepKeeps =
    (old new : State) (event : Event) (result : Result Value VatFault) (effects : List Effect) → Local old → new.is_closed ≡ false → Step old event result effects new → Local new

-- So it holds of an open vat after every run.
abbrev pub RunsKeep : Type 0
RunsKeep = (bootstrap : Option ℕ) (history : List Moment) (last : State) → Steps (new_state bootstrap) history last → last.is_closed ≡ false → Local last
