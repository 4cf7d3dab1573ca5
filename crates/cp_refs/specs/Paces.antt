-- Walks, a step at a time.
use Rattle.std.specs.Prelude.{◌≡◌}
use Rattle.cp_refs.specs.Route.{leads, way, Routes}
use Rattle.cp_refs.specs.Values.{ValueMaps}
use Rattle.cp_refs.specs.declared.cap.Cap.{Cap}
use Rattle.cp_refs.specs.declared.walk.Pace.{Pace}
use Rattle.cp_refs.specs.declared.walk.Pace.TheVariants as paces

-- the route of a capability, or where its way leads on
abbrev pub PacesFrom : ValueMaps → Cap → Pace → Type 0
PacesFrom values c (paces.Ends route) = Routes values c route
PacesFrom values c (paces.Leads next) = (next.values.now ≡ values) × (way values c ≡ leads next.cap.now)
