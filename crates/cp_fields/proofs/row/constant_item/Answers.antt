use Rattle.std.proofs.Common.{ap, ◌∙◌}
use Rattle.cp_fields.specs.Constants.{constant_of}
use Rattle.cp_fields.specs.Items.{number_item, items_of}
use Rattle.cp_fields.proofs.Constants.{items-List, items-Ptrs, items-Structs}
use Rattle.cp_fields.proofs.RowItems.{number_at}
use Rattle.cp_fields.proofs.row.constant_item.Goals as goal

pub constant_pointer-requires : goal.constant_pointer-requires
constant_pointer-requires c = rw (ap (λ t. items_of (constant_of t)) c.in-Ptrs.is ∙ items-Ptrs c.in-Ptrs.items) at c.requires

pub constant_struct-requires : goal.constant_struct-requires
constant_struct-requires c = rw (ap (λ t. items_of (constant_of t)) c.in-Structs.is ∙ items-Structs _ _ c.in-Structs.items) at c.requires

pub returns-in-List : goal.returns-in-List
returns-in-List c =
    let same = ap (λ t. items_of (constant_of t)) c.in-List.is ∙ items-List c.in-List.items in
    rw same (c.of_number.ensures ∙ ap number_item c.list_number.ensures ∙ number_at _ c.args.i (rw same at c.requires))

pub returns-in-Ptrs : goal.returns-in-Ptrs
returns-in-Ptrs c = rw (ap (λ t. items_of (constant_of t)) c.in-Ptrs.is ∙ items-Ptrs c.in-Ptrs.items) c.constant_pointer.ensures

pub returns-in-Structs : goal.returns-in-Structs
returns-in-Structs c = rw (ap (λ t. items_of (constant_of t)) c.in-Structs.is ∙ items-Structs _ _ c.in-Structs.items) c.constant_struct.ensures
