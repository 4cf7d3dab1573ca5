use Rattle.std.proofs.Common.{ap, ◌∙◌, arith}
use Rattle.cp_tree.specs.NodeOf.{node_of}
use Rattle.cp_fields.specs.Items.{items_of}
use Rattle.cp_fields.proofs.Owned.{tree_item, body_item, items-Ptrs, items-Structs, counted}
use Rattle.cp_fields.proofs.row.owned_count.Goals as goal

pub returns-in-Ptrs : goal.returns-in-Ptrs
returns-in-Ptrs c = omega (arith, counted tree_item c.in-Ptrs.items.items _ (ap (λ t. items_of (node_of t)) c.in-Ptrs.is ∙ items-Ptrs c.in-Ptrs.items))

pub returns-in-Structs : goal.returns-in-Structs
returns-in-Structs c = omega (arith, counted body_item c.in-Structs.items.items _ (ap (λ t. items_of (node_of t)) c.in-Structs.is ∙ items-Structs _ _ c.in-Structs.items))
