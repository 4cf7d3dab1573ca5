use Rattle.std.proofs.Common.{[]}
use Rattle.cp_tree.specs.declared.tree.Tree.TheVariants.{Null}
use Rattle.cp_tree.proofs.Trees.{node-Null}
use Rattle.cp_builder.proofs.Rows.{null_more}
use Rattle.cp_encoder.proofs.making.nulls.Goals as goal

pub loop-preserved : goal.loop-preserved
loop-preserved c = null_more [] _ _ Null c.loop.counter c.in_ok-push.ensures.items node-Null c.loop.invariant
