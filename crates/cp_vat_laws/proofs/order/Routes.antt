-- Routes are one, also of ports.
use Rattle.std.specs.Prelude.{◌≡◌, ℕ, zero, suc, ◌==◌, Bool, true, false, List, [], ◌∷◌, Option, Some, None}
use Rattle.std.specs.FinMap.{get}
use Rattle.std.proofs.Common.{sym, ◌∙◌}
use Rattle.cp_refs.specs.At.{cap_at}
use Rattle.cp_refs.specs.Route.{Way, ends, leads, missing, way, route_by, route_within, Routes}
use Rattle.cp_refs.specs.Values.{ValueMaps}
use Rattle.cp_refs.specs.declared.cap.Cap.{Cap}
use Rattle.cp_refs.specs.declared.outcome.Outcome.{Outcome}
use Rattle.cp_refs.specs.declared.route.Gate.{Gate}
use Rattle.cp_refs.specs.declared.route.Route.{Route}
use Rattle.cp_refs.specs.declared.route.Route.TheVariants as routes
use Rattle.cp_vat_machine.specs.State.{State, gave}
use Rattle.cp_vat_machine.specs.Calling.{Standing, plain, on_wire, came_to, reference_of}
use Rattle.cp_vat_machine.specs.Trace.{Turn}
use Rattle.cp_vat_machine.specs.Ports.{Name, answer_path, capability, Port, AnswerRoute, ReferenceRoute, NameRoute, EndedRoute, KeptRoute, LifeRoute, PortRoute, absences}
use Rattle.cp_vat_machine.proofs.Basics.{some_out, none_out}

one_by : (f g : Cap → Option Route) (w : Way) (r s : Route) → ((c : Cap) (r s : Route) → f c ≡ Some r → g c ≡ Some s → r ≡ s) → route_by f w ≡ Some r → route_by g w ≡ Some s → r ≡ s
one_by f g (ends route) r s same e h = sym (some_out e) ∙ some_out h
one_by f g (leads c) r s same e h = same c r s e h
one_by f g missing r s same e h = none_out e

one_within : (m n : ℕ) (values : ValueMaps) (c : Cap) (r s : Route) → route_within m values c ≡ Some r → route_within n values c ≡ Some s → r ≡ s
one_within zero n values c r s e h = none_out e
one_within (suc m) zero values c r s e h = none_out h
one_within (suc m) (suc n) values c r s e h =
    one_by (λ next. route_within m values next) (λ next. route_within n values next) (way values c) r s (λ next. one_within m n values next) e h

-- a capability has one route
pub one_route : (values : ValueMaps) (c : Cap) (r s : Route) → Routes values c r → Routes values c s → r ≡ s
one_route values c r s one other = one_within one.0 other.0 values c r s one.1 other.1

-- so has what a call names
one_answer : (values : ValueMaps) (a : ℕ) (path : List ℕ) (o : Option (Option Outcome)) (r s : Route) → AnswerRoute values a path o r → AnswerRoute values a path o s → r ≡ s
one_answer values a path None r s one other = absurd one
one_answer values a path (Some None) r s one other = one ∙ sym other
one_answer values a path (Some (Some outcome)) r s one other = one_route values (cap_at outcome path) r s one other

one_reference : (values : ValueMaps) (c : Cap) (reference : Standing) (r s : Route) → ReferenceRoute values c reference r → ReferenceRoute values c reference s → r ≡ s
one_reference values c plain r s one other = one_route values c r s one other
one_reference values c on_wire r s one other = one_route values c r s one other
one_reference values c (came_to value) r s one other = one_route values value r s one other

pub one_name : (values : ValueMaps) (name : Name) (r s : Route) → NameRoute values name r → NameRoute values name s → r ≡ s
one_name values (answer_path a path) r s one other = one_answer values a path (get values.answers a) r s one other
one_name values (capability c) r s one other = one_reference values c (reference_of values c) r s one other

-- a route that is kept comes to one
one_ended : (values : ValueMaps) (gate : Gate) (o : Option Cap) (r s : Route) → EndedRoute values gate o r → EndedRoute values gate o s → r ≡ s
one_ended values gate None r s one other = one ∙ sym other
one_ended values gate (Some c) r s one other = one_route values c r s one other

pub one_kept : (state : State) (earlier r s : Route) → KeptRoute state earlier r → KeptRoute state earlier s → r ≡ s
one_kept state (routes.Deliver k) r s one other = one ∙ sym other
one_kept state (routes.Import i) r s one other = one ∙ sym other
one_kept state (routes.Pipe q path) r s one other = one ∙ sym other
one_kept state (routes.Wait gate) r s one other = one_ended state.values gate (gave state.waiting.over gate) r s one other
one_kept state (routes.Fail x) r s one other = one ∙ sym other

one_life : (b : Bool) (turn : Turn) (name : Name) (Earlier : Route → Type 0) (r s : Route) → ((r s : Route) → Earlier r → Earlier s → r ≡ s)
    → LifeRoute b turn name Earlier r → LifeRoute b turn name Earlier s → r ≡ s
one_life true turn name Earlier r s same one other = one_name turn.after.values name r s one other
one_life false turn name Earlier r s same one other =
    one_kept turn.after other.0 r s (rw (same one.0 other.0 one.1 other.1) at one.2) other.2

-- a port has one route
pub one_port : (turns : List Turn) (port : Port) (r s : Route) → PortRoute turns port r → PortRoute turns port s → r ≡ s
one_port [] port r s one other = absurd one
one_port (turn ∷ past) port r s one other =
    one_life (absences port.name (turn ∷ past) == port.life) turn port.name (PortRoute past port) r s (one_port past port) one other
