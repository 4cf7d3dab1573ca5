use Rattle.std.proofs.Common.{◌∙◌}
use Rattle.std.specs.FinMap.{values}
use Rattle.cp_tables.proofs.TableLemmas.{listed}
use Rattle.cp_objects.specs.Lending.{imports_in}
use Rattle.cp_objects.proofs.Counting.{has_those}
use Rattle.cp_objects.proofs.lent.Lent.names.Goals as goal

pub returns-in-Import : goal.returns-in-Import
returns-in-Import c =
    let inside = c.self.inside in
    rw (← c.self.view_is, c.in-Import.is) (c.has.ensures ∙ has_those inside.imports.counts (imports_in (values (listed inside.caps))) c.in-Import.import c.self.invariant)
