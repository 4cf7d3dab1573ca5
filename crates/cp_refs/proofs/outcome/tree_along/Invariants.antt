use Rattle.std.proofs.Common.{◌≡◌, drop}
use Rattle.cp_tree.specs.NodeOf.{node_of}
use Rattle.cp_refs.specs.At.{node_along}
use Rattle.cp_refs.proofs.outcome.tree_along.Given as goal

-- what is left of the path leads from what was reached to where the whole path leads
abbrev pub invariant-loop-field : goal.invariant-loop-field
invariant-loop-field l = node_along (node_of l.reached) (drop l.field-index l.path) ≡ node_along (node_of l.fn.tree) l.path
