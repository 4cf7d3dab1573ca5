use Rattle.cp_vat_state.proofs.Keeping.{held-put_question}
use Rattle.cp_vat_state.proofs.resolutions.Resolutions.put_question.Goals as goal

pub invariant_of-self-2 : goal.invariant_of-self-2
invariant_of-self-2 c =
    rw c.in-Ok.ensures.put
    (held-put_question c.self.inside.values c.self.inside.kept c.self.inside.imported c.raise_outcome.new.self c.lower_question.new.self c.self.invariant.0 c.args.id c.args.question _ c.in_ok-raise_outcome.ensures.raised c.lower_question.ensures c.in-Ok.ensures.value, c.self.invariant.1)
