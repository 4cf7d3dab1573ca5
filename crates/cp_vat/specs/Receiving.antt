-- What is left to do of a Call or a Return, once it was checked.
use Rattle.std.specs.Prelude.{◌≡◌, ℕ, Bool, [], Option, Result, Ok, Err}
use Rattle.cp_tree.specs.Node.{Node}
use Rattle.cp_messages.specs.declared.call.Call.{Call}
use Rattle.cp_messages.specs.declared.returned.Return.{Return}
use Rattle.cp_messages.specs.declared.returned.Returned.{Returned}
use Rattle.cp_messages.specs.declared.target.Target.{Target}
use Rattle.cp_refs.specs.declared.call.Origin.{Origin}
use Rattle.cp_refs.specs.declared.route.Route.{Route}
use Rattle.cp_refs.specs.declared.route.Route.TheVariants as routes
use Rattle.cp_vat_machine.specs.State.{State}
use Rattle.cp_vat_machine.specs.Then.{Done, Then}
use Rattle.cp_vat_machine.specs.Go.{Go, PendingCall}
use Rattle.cp_vat_machine.specs.Answering.{GoToTarget}
use Rattle.cp_vat_machine.specs.Asking.{OnReturn, Settles, ReceivesReturned}
use Rattle.cp_vat_machine.specs.declared.fault.PeerFault.{PeerFault}
use Rattle.cp_vat_laws.specs.Within.{Within}
use Rattle.cp_vat_state.specs.declared.step_fault.StepFault.{StepFault}
use Rattle.cp_vat_state.specs.declared.step_fault.StepFault.TheVariants as halts
use Rattle.cp_vat.specs.Returning.{AwaitsReturn}
use Rattle.cp_vat.specs.declared.on_return.Remaining.{Remaining}
use Rattle.cp_vat.specs.declared.on_return.Remaining.TheVariants as rests

-- Nothing is left; or the question awaits its Return, and what taking in what was returned and settling it gives is what the Return does; or a
-- fault was met.
abbrev pub Begins : State → Return → Result Remaining StepFault → State → Type 0
Begins old r (Ok rests.Nothing) new = OnReturn old r (Ok ([], new))
Begins old r (Ok (rests.Settle forwards)) new =
    AwaitsReturn new r.answer_id forwards
    × ((out : Result Done PeerFault) → Then (ReceivesReturned new r.returned) (λ taken. Settles taken.1 r.answer_id forwards taken.0) out → OnReturn old r out)
Begins old r (Err (halts.Fault fault)) new = OnReturn old r (Err fault)
Begins old r (Err halts.OutOfMemory) new = Unit {0}

-- the Return of a question that bears this
abbrev pub bears : ℕ → Bool → Returned → Return
bears id release_param_caps returned = record { answer_id = id; release_param_caps = release_param_caps; returned = returned }

-- so whatever the Return of this question bears
abbrev pub BeginsReturn : State → ℕ → Bool → Result Remaining StepFault → State → Type 0
BeginsReturn old id release_param_caps result new = (returned : Returned) → Begins old (bears id release_param_caps returned) result new

-- This holds within an event, with a call in hand or with none.
abbrev pub HoldsWithin : State → Type 0
HoldsWithin s = (hand : Option Origin) × Within s hand []

-- Whatever call takes this route does what the rule says of it.
abbrev pub LeadsBy : (PendingCall → Result Done PeerFault → Type 0) → State → Route → Type 0
LeadsBy Rule s route = (call : PendingCall) → (out : Result Done PeerFault) → Go s call route out → Rule call out

-- it is the route of a call on this target
abbrev pub Leads : State → Target → Route → Type 0
Leads s target route = LeadsBy (λ call out. GoToTarget s call target out) s route

-- The second tree is the content that a call carries which takes this route: the first. What a call carries that fails doesn't matter.
abbrev pub Carries : Route → Node → Node → Type 0
Carries (routes.Fail x) t carried = Unit {0}
Carries route t carried = carried ≡ t

-- a Call with the content that comes beside it
abbrev pub with_content : Call → Node → Call
with_content c t = record c { params = record c.params { content = t } }
