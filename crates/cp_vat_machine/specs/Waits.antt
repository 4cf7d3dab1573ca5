-- Where waiting calls are to go: each by the route of the port at which it came. (rpc.capnp: "Call", "Disembargo".)
use Rattle.std.specs.Prelude.{◌≡◌, ℕ, List, Option, Some, None, IfSome}
use Rattle.std.specs.FinMap.{get}
use Rattle.cp_tables.specs.Table.{Table}
use Rattle.cp_refs.specs.Route.{Routes}
use Rattle.cp_refs.specs.declared.cap.Cap.{Cap}
use Rattle.cp_refs.specs.declared.route.Gate.{Gate}
use Rattle.cp_refs.specs.declared.route.Gate.TheVariants as gates
use Rattle.cp_refs.specs.declared.route.Route.{Route}
use Rattle.cp_refs.specs.declared.route.Route.TheVariants as routes
use Rattle.cp_vat_machine.specs.State.{State, gave}

-- The port at which a call came: a capability (an export's, one that an own call names, or what a reference came to), or what an answer gives at
-- a path. An answer that was given is the capability there from then on.
pub data Port : Type 0 where
  on : Cap → Port
  on_answer : ℕ → List ℕ → Port

-- Where a gate leads, by what it gave: to itself while it isn't over, and then by the route of that.
abbrev pub LeadsBy : State → Gate → Option Cap → Route → Type 0
LeadsBy s gate None route = route ≡ routes.Wait gate
LeadsBy s gate (Some cap) route = Routes s.values cap route

abbrev pub Leads : State → Gate → Route → Type 0
Leads s gate route = LeadsBy s gate (gave s.waiting.over gate) route

-- the route of a port
abbrev pub PortRoutes : State → Port → Route → Type 0
PortRoutes s (on cap) route = Routes s.values cap route
PortRoutes s (on_answer a path) route = Leads s (gates.Answer a path) route

-- A call waits rightly at a gate, by what the gate gave: where the gate leads is the route of its port. At an embargo that is open it waits for what
-- the embargo leads to, which its port is.
abbrev pub WaitsBy : State → Port → Gate → Option Cap → Type 0
WaitsBy s port (gates.Embargo n) None = (value : Cap) × (get s.marks.embargoes n ≡ Some value) × (port ≡ on value)
WaitsBy s port gate given = (route : Route) × LeadsBy s gate given route × PortRoutes s port route

abbrev pub WaitsAt : State → Option Port → Gate → Type 0
WaitsAt s None gate = ⊥
WaitsAt s (Some port) gate = WaitsBy s port gate (gave s.waiting.over gate)

-- Each waiting call's gate leads where its port does; with it the ports of the waiting calls, by their tickets.
abbrev pub WaitRightly : State → Table Port → Type 0
WaitRightly s ports = (ticket : ℕ) → IfSome (get s.waiting.calls ticket) (λ call. WaitsAt s (get ports ticket) call.gate)
