use Rattle.cp_refs.proofs.kept_outcome.KeptOutcome.step.Goals as goal

pub returns : goal.returns
returns c = rw (← c.self.view_is, ← c.self.invariant.gives_same c.args.path.now) c.step_of_part.ensures
