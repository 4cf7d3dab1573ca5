use Rattle.net_host.proofs.Unfailed.{begins_unfailed, stays_unfailed}
use Rattle.net_host.proofs.laws.fails_once.Goals as goal

pub returns-clause-stays : goal.returns-clause-stays
returns-clause-stays g c = stays_unfailed

pub returns-clause-begins : goal.returns-clause-begins
returns-clause-begins g c = begins_unfailed
