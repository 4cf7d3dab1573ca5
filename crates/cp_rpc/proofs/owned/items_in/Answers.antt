use Rattle.std.proofs.Common.{sym, ap, ◌∙◌}
use Rattle.cp_tree.specs.NodeOf.{node_of}
use Rattle.cp_messages.specs.Fields.{items_of}
use Rattle.cp_rpc.proofs.Parts.{items-Structs}
use Rattle.cp_rpc.proofs.owned.items_in.Goals as goal

pub returns-in-Structs : goal.returns-in-Structs
returns-in-Structs c = rw c.as_slice.ensures.value (sym (ap (λ t. items_of (node_of t)) c.in-Structs.is ∙ items-Structs _ _ c.in-Structs.items))
