use Rattle.std.proofs.Common.{◌+◌, ◌-◌, length, Some}
use Rattle.cp_tree.specs.Node.{count}
use Rattle.cp_tree.specs.NodeOf.{nodes_of, body_of}
use Rattle.cp_tree.specs.Lent.{row_in}
use Rattle.cp_tree.specs.Spent.{spent}
use Rattle.cp_tree.proofs.Spending.{RowNests}
use Rattle.cp_rpc.proofs.owned.body_fits.Given as goal

abbrev pub invariant-loop-tree : goal.invariant-loop-tree
invariant-loop-tree l =
    let b = body_of l.body in
    RowNests (l.nesting - 1) b.1 (spent (Some l.traversal) (1 + length b.0 + count b.1)) (nodes_of (row_in l.tree-iterator)) l.budget
