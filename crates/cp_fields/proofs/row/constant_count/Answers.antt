use Rattle.std.proofs.Common.{ap, ◌∙◌, arith}
use Rattle.cp_fields.specs.Constants.{constant_of}
use Rattle.cp_fields.specs.Items.{items_of}
use Rattle.cp_fields.specs.Rows.{tree_item, body_item}
use Rattle.cp_fields.proofs.Constants.{items-Ptrs, items-Structs}
use Rattle.cp_fields.proofs.Owned.{counted}
use Rattle.cp_fields.proofs.row.constant_count.Goals as goal

pub returns-in-Ptrs : goal.returns-in-Ptrs
returns-in-Ptrs c = omega (arith, counted tree_item c.in-Ptrs.items.now _ (ap (λ t. items_of (constant_of t)) c.in-Ptrs.is ∙ items-Ptrs c.in-Ptrs.items))

pub returns-in-Structs : goal.returns-in-Structs
returns-in-Structs c = omega (arith, counted body_item c.in-Structs.items.now _ (ap (λ t. items_of (constant_of t)) c.in-Structs.is ∙ items-Structs _ _ c.in-Structs.items))
