use Rattle.cp_refs.proofs.kept_outcome.KeptOutcome.at.Goals as goal

pub returns : goal.returns
returns c = rw (← c.self.view_is, ← c.self.invariant.gives_same c.args.path.now) c.part_at.ensures
