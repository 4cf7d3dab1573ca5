use Rattle.std.proofs.Common.{◌+◌, ◌*◌}
use Rattle.cp_tree.specs.NodeOf.{nodes_of, bodies_of}
use Rattle.cp_tree.specs.Lent.{row_in, bodies_in}
use Rattle.cp_tree.proofs.Spending.{RowNests, BodiesNest}
use Rattle.cp_tree.proofs.measure.+measure.Given as goal

abbrev pub invariant-row_nests-loop-tree : goal.invariant-row_nests-loop-tree
invariant-row_nests-loop-tree l = RowNests l.levels (nodes_of (row_in l.fn.trees)) l.fn.budget (nodes_of (row_in l.tree-iterator)) l.budget

abbrev pub invariant-bodies_nest-loop-body : goal.invariant-bodies_nest-loop-body
invariant-bodies_nest-loop-body l = BodiesNest l.levels l.price (bodies_of (bodies_in l.fn.bodies)) l.fn.budget (bodies_of (bodies_in l.body-iterator)) l.budget

abbrev pub decreases-nests : goal.decreases-nests
decreases-nests l = 4 * l.levels + 1

abbrev pub decreases-row_nests : goal.decreases-row_nests
decreases-row_nests l = 4 * l.levels + 2

abbrev pub decreases-bodies_nest : goal.decreases-bodies_nest
decreases-bodies_nest l = 4 * l.levels + 3
