-- Calls of the application on their way.
use Rattle.std.specs.Prelude.{◌≡◌, ℕ, ◌-◌, List, Result}
use Rattle.std.specs.FinMap.{remove}
use Rattle.cp_refs.specs.Route.{HasRoute}
use Rattle.cp_refs.specs.Values.{ValueMaps}
use Rattle.cp_refs.specs.declared.call.Request.{Request}
use Rattle.cp_refs.specs.declared.cap.Cap.{Cap}
use Rattle.cp_refs.specs.declared.cap.Cap.TheVariants as caps
use Rattle.cp_refs.specs.declared.values.QuestionKind.{QuestionKind}
use Rattle.cp_refs.specs.declared.values.QuestionKind.TheVariants as kinds
use Rattle.cp_vat_machine.specs.State.{State}
use Rattle.cp_vat_machine.specs.Then.{Done, Then}
use Rattle.cp_vat_machine.specs.Go.{GoTo, PendingCall}
use Rattle.cp_vat_machine.specs.Calling.{called, mark_of, marked, own_call}
use Rattle.cp_vat_machine.specs.Calling as machine
use Rattle.cp_vat_machine.specs.declared.effect.Effect.{Effect}
use Rattle.cp_vat_machine.specs.declared.fault.PeerFault.{PeerFault}
use Rattle.cp_vat_state.specs.Halts.{Acts}
use Rattle.cp_vat_state.specs.StateOf.{state_of}
use Rattle.cp_vat_state.specs.declared.step_fault.StepFault.{StepFault}
use Rattle.cp_vat_state.specs.declared.parts.Core.{Core}
use Rattle.cp_vat_rules.specs.Going.{pending_call_of}
use Rattle.cp_vat_rules.specs.declared.go.PendingCall as rules
use Rattle.cp_vat.specs.declared.going.Standing.{Standing}
use Rattle.cp_vat.specs.declared.going.Standing.TheVariants as references

-- what a capability is that the application calls, as the machine says it
abbrev pub seen : Standing → machine.Standing
seen references.Plain = machine.plain
seen references.OnWire = machine.on_wire
seen (references.CameTo value) = machine.came_to value

-- the kind of the question of a call on a reference that came to this
abbrev pub value_kind : Cap → QuestionKind
value_kind (caps.Import j) = kinds.Wire
value_kind other = kinds.Local

-- the kind of a call's question
abbrev pub kind_of : Standing → QuestionKind
kind_of references.Plain = kinds.Local
kind_of references.OnWire = kinds.Wire
kind_of (references.CameTo value) = value_kind value

-- the way ends that a call on a capability takes
abbrev pub WayEnds : ValueMaps → Cap → Standing → Type 0
WayEnds values cap (references.CameTo value) = HasRoute values value
WayEnds values cap other = HasRoute values cap

-- a call on a reference that is open on the wire marks it, and goes
abbrev pub GoMarked : State → PendingCall → Cap → Result Done PeerFault → Type 0
GoMarked old call cap out = Then (λ mid. mid ≡ marked old cap (mark_of old cap)) (λ mid. GoTo mid call cap) out

-- the state without a question that was opened last, whose ticket is the next one's again
abbrev pub taken_back : State → ℕ → State
taken_back s q =
    record s {
      values = record s.values { questions = remove s.values.questions q };
      entries = record s.entries { questions = remove s.entries.questions q };
      next_ticket = s.next_ticket - 1;
    }

-- If a question of this kind was opened last by the application, and this is its call, then what is done is what the rule says of it.
abbrev pub GoesBy : (State → ℕ → Request → Result Done PeerFault → Type 0) → QuestionKind → Core → rules.PendingCall → Result (Unit {0}) StepFault → List Effect → List Effect → Core → Type 0
GoesBy Rule kind now call result before after new =
    (old : State) (q : ℕ) (request : Request) → state_of now ≡ called old q kind → pending_call_of call ≡ own_call old q request
    → Acts (Rule old q request) result before after (state_of new)
