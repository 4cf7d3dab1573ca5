use Rattle.std.proofs.Common.{ap, ◌∙◌}
use Rattle.std.specs.Option.{option_flatten}
use Rattle.cp_vat_state.proofs.Keeping.{held-put_promise}
use Rattle.cp_vat_state.proofs.Numbering.{numbered-put}
use Rattle.cp_vat_state.proofs.resolutions.Resolutions.put_promise.Goals as goal

pub invariant_of-self-2 : goal.invariant_of-self-2
invariant_of-self-2 c =
    rw c.in-Ok.ensures.put
    (held-put_promise c.self.inside.values c.self.inside.kept c.self.inside.imported c.raise_value.new.self c.lower_value-2.new.self c.self.invariant.0 c.args.id c.args.value _ c.in_ok-raise_value.ensures.raised c.lower_value-2.ensures (c.flatten-old.ensures ∙ ap option_flatten c.in-Ok.ensures.value), numbered-put _ _ c.args.id c.args.value c.self.invariant.1 (rw (← c.self.view_is) at c.requires))
