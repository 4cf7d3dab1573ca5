use Rattle.std.proofs.Common.{ap, ◌∙◌, arith}
use Rattle.cp_tree.specs.NodeOf.{node_of}
use Rattle.cp_fields.specs.Items.{number_item, pointer_item, items_of}
use Rattle.cp_fields.proofs.RowItems.{zero_at}
use Rattle.cp_fields.proofs.Owned.{bit_item, tree_item, body_item, items-Voids, items-Bits, items-Bytes, items-Halves, items-Quads, items-Words, items-Ptrs, items-Structs, within, read_at}
use Rattle.cp_fields.proofs.row.owned_item.Goals as goal

pub index-requires-in-Ptrs : goal.index-requires-in-Ptrs
index-requires-in-Ptrs c = omega (arith, within tree_item c.in-Ptrs.items.items _ c.args.i (ap (λ t. items_of (node_of t)) c.in-Ptrs.is ∙ items-Ptrs c.in-Ptrs.items) c.requires)

pub index-requires-in-Structs : goal.index-requires-in-Structs
index-requires-in-Structs c = omega (arith, within body_item c.in-Structs.items.items _ c.args.i (ap (λ t. items_of (node_of t)) c.in-Structs.is ∙ items-Structs _ _ c.in-Structs.items) c.requires)

pub returns-in-Voids : goal.returns-in-Voids
returns-in-Voids c =
    let same = ap (λ t. items_of (node_of t)) c.in-Voids.is ∙ items-Voids c.in-Voids.field-0 in
    rw same (c.of_number.ensures ∙ zero_at c.in-Voids.field-0 c.args.i (rw same at c.requires))

pub returns-in-Bits : goal.returns-in-Bits
returns-in-Bits c =
    c.of_number-in-Bits.ensures ∙ ap number_item c.bit_value.ensures
    ∙ read_at bit_item c.in-Bits.items.items _ c.args.i c.index.result.now (ap (λ t. items_of (node_of t)) c.in-Bits.is ∙ items-Bits c.in-Bits.items) c.requires c.index.ensures

pub returns-in-Bytes : goal.returns-in-Bytes
returns-in-Bytes c =
    c.of_number-in-Bytes.ensures
    ∙ read_at number_item c.in-Bytes.items.items _ c.args.i c.index-in-Bytes.result.now (ap (λ t. items_of (node_of t)) c.in-Bytes.is ∙ items-Bytes c.in-Bytes.items) c.requires c.index-in-Bytes.ensures

pub returns-in-Halves : goal.returns-in-Halves
returns-in-Halves c =
    c.of_number-in-Halves.ensures
    ∙ read_at number_item c.in-Halves.items.items _ c.args.i c.index-in-Halves.result.now (ap (λ t. items_of (node_of t)) c.in-Halves.is ∙ items-Halves c.in-Halves.items) c.requires c.index-in-Halves.ensures

pub returns-in-Quads : goal.returns-in-Quads
returns-in-Quads c =
    c.of_number-in-Quads.ensures
    ∙ read_at number_item c.in-Quads.items.items _ c.args.i c.index-in-Quads.result.now (ap (λ t. items_of (node_of t)) c.in-Quads.is ∙ items-Quads c.in-Quads.items) c.requires c.index-in-Quads.ensures

pub returns-in-Words : goal.returns-in-Words
returns-in-Words c =
    c.of_number-in-Words.ensures
    ∙ read_at number_item c.in-Words.items.items _ c.args.i c.index-in-Words.result.now (ap (λ t. items_of (node_of t)) c.in-Words.is ∙ items-Words c.in-Words.items) c.requires c.index-in-Words.ensures

pub returns-in-Ptrs : goal.returns-in-Ptrs
returns-in-Ptrs c =
    c.of_pointer.ensures ∙ ap pointer_item c.of_tree.ensures
    ∙ read_at tree_item c.in-Ptrs.items.items _ c.args.i c.index-in-Ptrs.result.now (ap (λ t. items_of (node_of t)) c.in-Ptrs.is ∙ items-Ptrs c.in-Ptrs.items) c.requires c.index-in-Ptrs.ensures

pub returns-in-Structs : goal.returns-in-Structs
returns-in-Structs c =
    c.of_body.ensures
    ∙ read_at body_item c.in-Structs.items.items _ c.args.i c.index-in-Structs.result.now (ap (λ t. items_of (node_of t)) c.in-Structs.is ∙ items-Structs _ _ c.in-Structs.items) c.requires c.index-in-Structs.ensures
