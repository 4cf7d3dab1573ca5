-- Routes, a step at a time.
use Rattle.std.specs.Prelude.{◌≡◌}
use Rattle.cp_refs.specs.Route.{ends, leads, way, Routes}
use Rattle.cp_refs.specs.Values.{ValueMaps}
use Rattle.cp_refs.specs.declared.cap.Cap.{Cap}
use Rattle.cp_refs.specs.declared.values.Step.{Step}
use Rattle.cp_refs.specs.declared.values.Step.TheVariants as steps

-- the route of a capability, or where its way leads on
abbrev pub StepsFrom : ValueMaps → Cap → Step → Type 0
StepsFrom values c (steps.Ends route) = Routes values c route
StepsFrom values c (steps.Leads next) = way values c ≡ leads next.now

-- what a capability leads to by its own, whatever promises and questions came to
abbrev pub IsStepOf : Cap → Step → Type 0
IsStepOf c (steps.Ends route) = (values : ValueMaps) → way values c ≡ ends route
IsStepOf c (steps.Leads next) = c ≡ next.now
