use Rattle.cp_stream.proofs.Runs.{gives_stream, reports_rest, gives_same}
use Rattle.cp_stream.proofs.laws.any_cut.Goals as goal

pub returns-clause-all : goal.returns-clause-all
returns-clause-all c = gives_stream

pub returns-clause-reported : goal.returns-clause-reported
returns-clause-reported c = reports_rest

pub returns-clause-any : goal.returns-clause-any
returns-clause-any c = gives_same
