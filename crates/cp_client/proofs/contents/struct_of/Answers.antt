use Rattle.cp_client.proofs.Trees.{node-Struct}
use Rattle.cp_client.proofs.contents.struct_of.Goals as goal

pub returns : goal.returns
returns c = node-Struct _ _
