use Rattle.net_host.proofs.Once.{gone_rounds, gone_tells, once_begins, once_rounds, once_tells, reported_tells}
use Rattle.net_host.proofs.laws.reported_once.Goals as goal

pub returns-clause-reports : goal.returns-clause-reports
returns-clause-reports g c = record {
  once = λ old new news number h once. once_tells h.0 new news number h.2 (once_rounds old h.0 number h.1 once);
  gone = λ old new news number h gone. gone_tells h.0 new news number h.2 (gone_rounds old h.0 number h.1 gone);
  reported = λ old new news number h once. reported_tells h.0 new news number h.2 (once_rounds old h.0 number h.1 once);
}

pub returns-clause-begins : goal.returns-clause-begins
returns-clause-begins g c = once_begins
