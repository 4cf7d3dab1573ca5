use Rattle.net_host.proofs.Sharing.{reports_within}
use Rattle.net_host.proofs.laws.keeps_within.Goals as goal

pub returns : goal.returns
returns g c = reports_within
