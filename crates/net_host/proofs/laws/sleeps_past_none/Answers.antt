use Rattle.net_host.proofs.Awaiting.{begins_awaited, reports_awaited}
use Rattle.net_host.proofs.laws.sleeps_past_none.Goals as goal

pub returns-clause-reports : goal.returns-clause-reports
returns-clause-reports g c = reports_awaited g.H.ObjectTable.table

pub returns-clause-begins : goal.returns-clause-begins
returns-clause-begins g c = begins_awaited g.H.ObjectTable.table
