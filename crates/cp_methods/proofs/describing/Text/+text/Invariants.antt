use Rattle.std.proofs.Common.{◌+◌, ◌*◌}
use Rattle.cp_methods.proofs.describing.Text.+text.Given as goal

abbrev pub decreases-structure : goal.decreases-structure
decreases-structure l = 3 * l.room + 2

abbrev pub decreases-field : goal.decreases-field
decreases-field l = 3 * l.room + 1

abbrev pub decreases-group : goal.decreases-group
decreases-group l = 3 * l.room
