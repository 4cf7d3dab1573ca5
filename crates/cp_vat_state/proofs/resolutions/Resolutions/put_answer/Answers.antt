use Rattle.std.proofs.Common.{ap, ◌∙◌}
use Rattle.std.specs.Option.{option_flatten}
use Rattle.cp_vat_state.proofs.Keeping.{held-put_answer}
use Rattle.cp_vat_state.proofs.resolutions.Resolutions.put_answer.Goals as goal

pub invariant_of-self-2 : goal.invariant_of-self-2
invariant_of-self-2 c =
    rw c.in-Ok.ensures.put
    (held-put_answer c.self.inside.values c.self.inside.kept c.self.inside.imported c.raise_outcome.new.self c.lower_outcome-2.new.self c.self.invariant.0 c.args.id c.args.outcome _ c.in_ok-raise_outcome.ensures.raised c.lower_outcome-2.ensures (c.flatten-old.ensures ∙ ap option_flatten c.in-Ok.ensures.value), c.self.invariant.1)
