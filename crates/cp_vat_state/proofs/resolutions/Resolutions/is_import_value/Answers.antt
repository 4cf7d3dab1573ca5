use Rattle.std.proofs.Common.{◌∙◌}
use Rattle.cp_vat_state.proofs.Asking.{is_import_value}
use Rattle.cp_vat_state.proofs.resolutions.Resolutions.is_import_value.Goals as goal

pub returns : goal.returns
returns c = rw (← c.self.view_is) (c.has.ensures ∙ is_import_value c.self.inside.values c.self.inside.kept c.self.inside.imported c.args.sought c.self.invariant.0)
