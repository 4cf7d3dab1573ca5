use Rattle.cp_servants.proofs.SampleTrees.{node-Struct}
use Rattle.cp_servants.proofs.sample_outcomes.struct_of.Goals as goal

pub returns : goal.returns
returns c = node-Struct _ _
