-- Ways of capabilities, a step at a time.
use Rattle.std.specs.Prelude.{◌≡◌, None}
use Rattle.cp_refs.specs.Route.{leads, way}
use Rattle.cp_refs.specs.Values.{ValueMaps}
use Rattle.cp_refs.specs.declared.cap.Cap.{Cap}
use Rattle.cp_vat_rules.specs.Leading.{LeadsTo}
use Rattle.cp_vat_rules.specs.declared.resolve.WaypointStep.{WaypointStep}
use Rattle.cp_vat_rules.specs.declared.resolve.WaypointStep.TheVariants as paces

-- a capability that a way ends at, or one that it leads on to
abbrev pub PacesFrom : ValueMaps → Cap → WaypointStep → Type 0
PacesFrom values c (paces.Ends last) = (last ≡ c) × LeadsTo (way values c) None
PacesFrom values c (paces.Leads next) = (next.values.now ≡ values) × (way values c ≡ leads next.cap)
