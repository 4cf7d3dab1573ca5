use Rattle.cp_tree.proofs.Trees.{node-Cap}
use Rattle.cp_servants.proofs.SampleTrees.{shaped_cap}
use Rattle.cp_servants.proofs.sample_outcomes.object_results.Goals as goal

pub from_shaped-requires : goal.from_shaped-requires
from_shaped-requires c = rw (c.struct_of-tree.ensures, c.in_ok-vec.ensures.items, c.new.ensures.items, node-Cap 0) shaped_cap

pub returns : goal.returns
returns c = rw (c.from_shaped.ensures, c.struct_of-tree.ensures, c.in_ok-vec.ensures.items, c.new.ensures.items, node-Cap 0, c.new-2.ensures, c.in_ok-vec-2.ensures.items)
