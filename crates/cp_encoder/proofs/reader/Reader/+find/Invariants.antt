use Rattle.std.proofs.Common.{◌+◌, ◌*◌}
use Rattle.cp_encoder.proofs.reader.Reader.+find.Given as goal

abbrev pub decreases-find : goal.decreases-find
decreases-find l = 2 * l.depth

abbrev pub decreases-has_inner : goal.decreases-has_inner
decreases-has_inner l = 2 * l.depth + 1
