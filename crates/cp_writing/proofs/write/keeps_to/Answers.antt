use Rattle.std.proofs.Common.{refl, arith}
use Rattle.cp_tree.specs.Node.{cost}
use Rattle.cp_tree.specs.Lent.{node_in}
use Rattle.cp_tree.proofs.Spending.{spent-some, spent-none}
use Rattle.cp_writing.proofs.write.keeps_to.Goals as goal

pub returns-in-Some-clause-fits : goal.returns-in-Some-clause-fits
returns-in-Some-clause-fits c =
    let h = spent-some c.traversal.result (cost (node_in c.args.tree)) _ _ c.if-not-nests.ensures.budget c.in-Some.is in
    (omega (arith, c.if-not-nests.ensures.deep.0 refl, c.nesting.ensures.value), omega (arith, h.0, c.traversal.ensures.value))

pub returns-in-None-clause-refused : goal.returns-in-None-clause-refused
returns-in-None-clause-refused c =
    let h = spent-none c.traversal.result (cost (node_in c.args.tree)) _ c.if-not-nests.ensures.budget c.in-None.is in
    (omega (arith, c.if-not-nests.ensures.deep.0 refl, c.nesting.ensures.value), omega (arith, h, c.traversal.ensures.value))
