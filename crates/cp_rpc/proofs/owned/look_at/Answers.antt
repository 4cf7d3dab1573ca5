use Rattle.std.proofs.Common.{sym, ap, ◌∙◌}
use Rattle.cp_tree.specs.NodeOf.{node_of}
use Rattle.cp_rpc.specs.Looked.{look_of}
use Rattle.cp_rpc.proofs.Parts.{source_kind-Structs}
use Rattle.cp_rpc.proofs.owned.look_at.Goals as goal

pub returns-in-Structs : goal.returns-in-Structs
returns-in-Structs c = rw c.as_slice.ensures.value (sym (ap (λ t. look_of (node_of t)) c.in-Structs.is ∙ source_kind-Structs _ _ c.in-Structs.items))
