use Rattle.std.proofs.Common.{◌+◌, ◌*◌}
use Rattle.cp_tree.specs.Node.{depth}
use Rattle.cp_lines.proofs.notation.+tree.Given as goal

abbrev pub decreases-tree : goal.decreases-tree
decreases-tree l = 4 * depth l.view.now + 3

abbrev pub decreases-elements : goal.decreases-elements
decreases-elements l = 4 * depth l.view.now + 2

abbrev pub decreases-body : goal.decreases-body
decreases-body l = 4 * depth l.view.now + 1

abbrev pub decreases-row : goal.decreases-row
decreases-row l = 4 * depth l.view.now
