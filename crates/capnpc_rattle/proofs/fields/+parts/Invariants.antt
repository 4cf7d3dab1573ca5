use Rattle.std.proofs.Common.{◌+◌, ◌*◌}
use Rattle.capnpc_rattle.proofs.fields.+parts.Given as goal

abbrev pub decreases-parts : goal.decreases-parts
decreases-parts l = 2 * l.depth + 1

abbrev pub decreases-group : goal.decreases-group
decreases-group l = 2 * l.depth
