use Rattle.cp_serve.proofs.serving.Server.serve.Goals as goal

pub returns-clause-served : goal.returns-clause-served
returns-clause-served g c = λ mode serves out. rw c.report-report.ensures (c.in_ok-ended.ensures.served mode serves out)
