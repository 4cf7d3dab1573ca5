use Rattle.std.proofs.Common.{◌∙◌}
use Rattle.std.specs.FinMap.{values}
use Rattle.cp_tables.proofs.TableLemmas.{listed}
use Rattle.cp_objects.proofs.Counting.{names_those}
use Rattle.cp_objects.proofs.param_caps.ParamCaps.names.Goals as goal

pub returns : goal.returns
returns c =
    let inside = c.self.inside in
    rw (← c.self.view_is) (c.has.ensures ∙ names_those inside.counts.counts (values (listed inside.named)) c.args.number c.self.invariant)
