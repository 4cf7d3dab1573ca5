-- What capabilities come to, and how they are sent, by parts of a state.
use Rattle.std.specs.Prelude.{◌≡◌, Option, Some, None}
use Rattle.cp_tables.specs.Table.{Table}
use Rattle.cp_tables.specs.declared.counted.Counted.{Counted}
use Rattle.cp_refs.specs.Route.{Way, ends, leads}
use Rattle.cp_refs.specs.Values.{ValueMaps}
use Rattle.cp_refs.specs.declared.cap.Cap.{Cap}
use Rattle.cp_vat_machine.specs.State.{State}

-- a way, without its route: to where it leads on, unless it ends
abbrev pub LeadsTo : Way → Option Cap → Type 0
LeadsTo (ends route) None = Unit {0}
LeadsTo (leads c) (Some next) = next ≡ c
LeadsTo other next = ⊥

-- the state with these values and exports
abbrev pub with_parts : State → ValueMaps → Table (Counted Cap) → State
with_parts s values exports = record s { values = values; counts = record s.counts { exports = exports } }
