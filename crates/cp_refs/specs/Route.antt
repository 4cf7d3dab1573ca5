-- Where a call on a capability goes. (rpc.capnp: "Call", "Resolve".)
use Rattle.std.specs.Prelude.{◌≡◌, ℕ, zero, suc, List, Option, Some, None, IsSome}
use Rattle.std.specs.FinMap.{get}
use Rattle.cp_refs.specs.At.{cap_at, null_capability}
use Rattle.cp_refs.specs.Values.{ValueMaps}
use Rattle.cp_refs.specs.declared.cap.Cap.{Cap}
use Rattle.cp_refs.specs.declared.cap.Cap.TheVariants as caps
use Rattle.cp_refs.specs.declared.route.Gate.TheVariants as gates
use Rattle.cp_refs.specs.declared.route.Route.{Route}
use Rattle.cp_refs.specs.declared.route.Route.TheVariants as routes
use Rattle.cp_refs.specs.declared.outcome.Outcome.{Outcome}
use Rattle.cp_refs.specs.declared.values.QuestionState.{QuestionState}
use Rattle.cp_refs.specs.declared.values.QuestionKind.{QuestionKind}
use Rattle.cp_refs.specs.declared.values.QuestionKind.TheVariants as kinds

-- A capability's way: its route is known, or it is that of another capability. The promise or the question that it names may be missing.
pub data Way : Type 0 where
  ends : Route → Way
  leads : Cap → Way
  missing : Way

-- a call on an open promise waits there, one on a settled promise takes its value's way
abbrev pub promise_way : ℕ → Option (Option Cap) → Way
promise_way p None = missing
promise_way p (Some None) = ends (routes.Wait (gates.Promise p))
promise_way p (Some (Some value)) = leads value

-- what a question will give is asked for on the wire where the question exists, and else waited for
abbrev pub open_way : QuestionKind → ℕ → List ℕ → Route
open_way kinds.Wire q path = routes.Pipe q path
open_way kinds.Local q path = routes.Wait (gates.Question q path)

abbrev pub outcome_way : QuestionKind → ℕ → List ℕ → Option Outcome → Way
outcome_way kind q path None = ends (open_way kind q path)
outcome_way kind q path (Some outcome) = leads (cap_at outcome path)

abbrev pub question_way : ℕ → List ℕ → Option QuestionState → Way
question_way q path None = missing
question_way q path (Some question) = outcome_way question.kind q path question.outcome

-- A call on an object goes there, and one on an import to the peer, whatever that import resolved to. Null fails.
abbrev pub way : ValueMaps → Cap → Way
way values caps.None = ends (routes.Fail null_capability)
way values (caps.Object k) = ends (routes.Deliver k)
way values (caps.Promise p) = promise_way p (get values.promises p)
way values (caps.Import i) = ends (routes.Import i)
way values (caps.Pipelined q path) = question_way q path (get values.questions q)
way values (caps.Broken exception) = ends (routes.Fail exception)

-- the route that a way comes to, where those of capabilities are known
abbrev pub route_by : (Cap → Option Route) → Way → Option Route
route_by route_of (ends route) = Some route
route_by route_of (leads c) = route_of c
route_by route_of missing = None

-- the route of a capability, if its way ends within this many steps
abbrev pub route_within : ℕ → ValueMaps → Cap → Option Route
route_within zero values c = None
route_within (suc n) values c = route_by (λ next. route_within n values next) (way values c)

-- this is the route of that capability
abbrev pub Routes : ValueMaps → Cap → Route → Type 0
Routes values c route = (n : ℕ) × (route_within n values c ≡ Some route)

-- the way of a capability ends, and the promises and the question on it exist
abbrev pub HasRoute : ValueMaps → Cap → Type 0
HasRoute values c = (n : ℕ) × IsSome (route_within n values c)
