use Rattle.std.proofs.Common.{length}
use Rattle.net_proxy.proofs.gate.filtered.Given as goal

abbrev pub decreases-passing : goal.decreases-passing
decreases-passing g l = length l.left
