use Rattle.cp_frame.proofs.Cuts.{reads_any_cut}
use Rattle.cp_frame.proofs.Whole.{reads_all, reports_all}
use Rattle.cp_frame.proofs.laws.any_cut.Goals as goal

pub returns-clause-all : goal.returns-clause-all
returns-clause-all c = reads_all

pub returns-clause-reported : goal.returns-clause-reported
returns-clause-reported c = reports_all

pub returns-clause-any : goal.returns-clause-any
returns-clause-any c = reads_any_cut
