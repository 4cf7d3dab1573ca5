use Rattle.std.proofs.Common.{sym, ◌∙◌}
use Rattle.cp_tree.specs.NodeOf.{node_of}
use Rattle.cp_refs.proofs.Paths.{cut_short}
use Rattle.cp_refs.proofs.outcome.tree_along.Goals as goal

pub returns-in_err-reached : goal.returns-in_err-reached
returns-in_err-reached c =
    rw c.from_residual.ensures (sym c.loop-field.invariant ∙ cut_short (node_of c.loop-field.reached.now) c.args.path.now c.loop-field.field-index 0 c.loop-field-test.true c.in_err-reached.ensures)
