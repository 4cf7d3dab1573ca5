use Rattle.std.proofs.Common.{◌≡◌}
use Rattle.cp_refs.specs.Route.{Routes}
use Rattle.cp_refs.specs.declared.route.Route.{Route}
use Rattle.cp_refs.proofs.values.Values.route.Given as goal

-- the route of the capability that was reached is that of the one asked for
abbrev pub invariant-loop-route : goal.invariant-loop-route
invariant-loop-route l = (l.walk.values.now ≡ l.self) × ((route : Route) → Routes l.self l.walk.cap.now route → Routes l.self l.fn.cap route)

abbrev pub decreases-loop-route : goal.decreases-loop-route
decreases-loop-route l = l.walk.ending.0
