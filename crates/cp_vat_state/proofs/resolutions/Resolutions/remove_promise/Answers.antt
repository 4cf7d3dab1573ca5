use Rattle.std.proofs.Common.{ap, ◌∙◌}
use Rattle.std.specs.Option.{option_flatten}
use Rattle.cp_vat_state.proofs.Keeping.{held-remove_promise}
use Rattle.cp_vat_state.proofs.Numbering.{numbered-removed, closed_number}
use Rattle.cp_vat_state.proofs.resolutions.Resolutions.remove_promise.Goals as goal

pub invariant_of-self : goal.invariant_of-self
invariant_of-self c =
    rw (c.remove_promise.ensures.removed, closed_number c.self.inside.numbers c.close.new.self c.args.id c.close.result c.close.ensures.closed c.close.ensures.err c.close.ensures.else_closed)
    (held-remove_promise c.self.inside.values c.self.inside.kept c.self.inside.imported c.lower_value.new.self c.self.invariant.0 c.args.id _ c.lower_value.ensures (c.flatten-old.ensures ∙ ap option_flatten c.remove_promise.ensures.value), numbered-removed c.self.inside.values.promises c.self.inside.numbers c.args.id c.self.invariant.1)
