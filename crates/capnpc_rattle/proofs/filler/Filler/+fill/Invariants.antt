use Rattle.std.proofs.Common.{◌+◌, ◌*◌}
use Rattle.capnpc_rattle.proofs.filler.Filler.+fill.Given as goal

abbrev pub decreases-insert : goal.decreases-insert
decreases-insert l = 4 * l.depth + 1

abbrev pub decreases-run : goal.decreases-run
decreases-run l = 4 * l.depth + 2

abbrev pub decreases-section : goal.decreases-section
decreases-section l = 4 * l.depth + 1

abbrev pub decreases-each : goal.decreases-each
decreases-each l = 4 * l.depth + 3
