use Rattle.cp_vat_state.proofs.Keeping.{held-remove_question}
use Rattle.cp_vat_state.proofs.resolutions.Resolutions.remove_question.Goals as goal

pub invariant_of-self : goal.invariant_of-self
invariant_of-self c =
    rw c.remove_question-old.ensures.removed
    (held-remove_question c.self.inside.values c.self.inside.kept c.self.inside.imported c.lower_question.new.self c.self.invariant.0 c.args.id _ c.lower_question.ensures c.remove_question-old.ensures.value, c.self.invariant.1)
