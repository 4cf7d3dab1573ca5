use Rattle.std.proofs.Common.{◌∙◌}
use Rattle.cp_vat_state.proofs.Asking.{is_kept}
use Rattle.cp_vat_state.proofs.resolutions.Resolutions.is_kept.Goals as goal

pub returns : goal.returns
returns c = rw (← c.self.view_is) (c.has.ensures ∙ is_kept c.self.inside.values c.self.inside.kept c.self.inside.imported c.args.sought c.self.invariant.0)
