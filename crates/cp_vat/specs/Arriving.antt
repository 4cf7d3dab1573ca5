-- Calls of the peer that were taken in, up to where they go.
use Rattle.std.specs.Prelude.{◌≡◌, Result, Ok, Err}
use Rattle.cp_tree.specs.Node.{Node}
use Rattle.cp_messages.specs.declared.call.Call.{Call}
use Rattle.cp_refs.specs.declared.call.Origin.TheVariants as origins
use Rattle.cp_vat_machine.specs.State.{State}
use Rattle.cp_vat_machine.specs.Then.{Done}
use Rattle.cp_vat_machine.specs.Go.{Go, PendingCall}
use Rattle.cp_vat_machine.specs.Answering.{OnCall}
use Rattle.cp_vat_machine.specs.declared.fault.PeerFault.{PeerFault}
use Rattle.cp_vat_state.specs.declared.step_fault.StepFault.{StepFault}
use Rattle.cp_vat_state.specs.declared.step_fault.StepFault.TheVariants as halts
use Rattle.cp_vat_rules.specs.Going.{MayGo}
use Rattle.cp_vat.specs.Receiving.{with_content}
use Rattle.cp_vat.specs.declared.on_call.Arrival.{Arrival}

-- the call, with this content
abbrev pub bearing : Call → Arrival → Node → PendingCall
bearing c a t =
    record {
      ticket = a.ticket;
      origin = origins.Answer c.question_id;
      request = record { interface = c.interface_id; method = c.method_id; content = t; caps = a.caps };
    }

-- Whatever content a Call bears, what it does by its route is what the rule says of it.
abbrev pub Arrives : State → Call → Arrival → State → Type 0
Arrives old c a new = (t : Node) (out : Result Done PeerFault) → Go new (bearing c a t) a.route out → OnCall old (with_content c t) out

-- It was taken in so, and may go; or a fault was met.
abbrev pub TakesIn : State → Call → Result Arrival StepFault → State → Type 0
TakesIn old c (Ok a) new = ((t : Node) → MayGo new (bearing c a t)) × Arrives old c a new
TakesIn old c (Err (halts.Fault fault)) new = (t : Node) → OnCall old (with_content c t) (Err fault)
TakesIn old c (Err halts.OutOfMemory) new = Unit {0}
