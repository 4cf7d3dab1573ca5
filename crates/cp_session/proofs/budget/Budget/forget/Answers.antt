use Rattle.cp_session.proofs.budget.Budget.forget.Goals as goal

pub invariant_of-self : goal.invariant_of-self
invariant_of-self c = rw c.remove.ensures.removed (rw (← c.self.view_is) at c.others-self-inside.ensures)
