use Rattle.cp_session.proofs.progress.Progress.meet.Goals as goal

pub returns-clause-met : goal.returns-clause-met
returns-clause-met c = rw (← c.excess_by-excess.ensures) c.end_by.ensures
