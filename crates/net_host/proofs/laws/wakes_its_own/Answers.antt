use Rattle.net_host.proofs.Waking.{names_one}
use Rattle.net_host.proofs.laws.wakes_its_own.Goals as goal

pub returns : goal.returns
returns c = names_one
