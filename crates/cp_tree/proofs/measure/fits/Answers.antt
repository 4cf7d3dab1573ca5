use Rattle.cp_tree.specs.Node.{cost}
use Rattle.cp_tree.specs.NodeOf.{node_of}
use Rattle.cp_tree.proofs.Spending.{spent-fits}
use Rattle.cp_tree.proofs.measure.fits.Goals as goal

pub returns-then-nests : goal.returns-then-nests
returns-then-nests c =
    let rest = spent-fits c.args.traversal (cost (node_of c.args.tree.now)) c.nests.new.budget (c.if-nests.ensures.budget) in
    rw (c.is_some.ensures) (λ e. (c.nests.ensures.deep.0 c.if-nests.true, rest.0 e), λ k. rest.1 k.1)
