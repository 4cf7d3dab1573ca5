use Rattle.cp_vat_laws.proofs.within.Step.{step_keeps, runs_keep}
use Rattle.cp_vat_laws.proofs.invariant.steps_keep.Goals as goal

pub returns-clause-steps : goal.returns-clause-steps
returns-clause-steps c = step_keeps

pub returns-clause-runs : goal.returns-clause-runs
returns-clause-runs c = runs_keep
