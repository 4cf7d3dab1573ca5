use Rattle.std.proofs.Common.{ap, ◌∙◌}
use Rattle.std.specs.Option.{option_flatten}
use Rattle.cp_vat_state.proofs.Keeping.{held-remove_import}
use Rattle.cp_vat_state.proofs.resolutions.Resolutions.remove_import.Goals as goal

pub invariant_of-self : goal.invariant_of-self
invariant_of-self c =
    rw c.remove_import.ensures.removed
    (held-remove_import c.self.inside.values c.self.inside.kept c.self.inside.imported c.lower_value.new.self c.self.invariant.0 c.args.id _ c.lower_value.ensures (c.flatten-old.ensures ∙ ap option_flatten c.remove_import.ensures.value), c.self.invariant.1)
