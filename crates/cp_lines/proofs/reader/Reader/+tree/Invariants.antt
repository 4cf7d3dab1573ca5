use Rattle.std.proofs.Common.{◌+◌, ◌*◌}
use Rattle.cp_lines.proofs.reader.Reader.+tree.Given as goal

-- each tree inside is of a lesser depth
abbrev pub decreases-tree : goal.decreases-tree
decreases-tree l = 4 * l.depth

abbrev pub decreases-structs : goal.decreases-structs
decreases-structs l = 4 * l.depth + 3

abbrev pub decreases-body : goal.decreases-body
decreases-body l = 4 * l.depth + 2

abbrev pub decreases-row : goal.decreases-row
decreases-row l = 4 * l.depth + 1
