use Rattle.std.proofs.Common.{sym, ap, subst, ◌∙◌}
use Rattle.cp_tree.specs.Node.{IsStruct}
use Rattle.cp_fields.specs.Items.{number_item, pointer_item}
use Rattle.cp_fields.proofs.RowItems.{void_at, packed_at_of, pointer_at, struct_at}
use Rattle.cp_fields.proofs.row.Elements.get.Goals as goal

pub returns-in-Voids : goal.returns-in-Voids
returns-in-Voids c =
    let within = rw (← c.self.view_is, c.in-Voids.is) at c.requires in
    let located = rw c.in-Voids.is at c.self.invariant.located in
    rw (← c.self.view_is, c.in-Voids.is) (c.of_number.ensures ∙ void_at c.in-Voids.field-0 c.self.inside.count c.args.i located within)

pub returns-in-Packed : goal.returns-in-Packed
returns-in-Packed c =
    let within = rw (← c.self.view_is, c.in-Packed.is) at c.requires in
    let located = rw c.in-Packed.is at c.self.invariant.located in
    rw (← c.self.view_is, c.in-Packed.is) (c.of_number-in-Packed.ensures ∙ ap number_item c.packed_at.ensures ∙ packed_at_of c.in-Packed.field-0 c.in-Packed.words.now c.in-Packed.width c.self.inside.count c.args.i located.3 within)

pub returns-in-Pointers : goal.returns-in-Pointers
returns-in-Pointers c =
    let within = rw (← c.self.view_is, c.in-Pointers.is) at c.requires in
    let located = rw c.in-Pointers.is at c.self.invariant.located in
    rw (← c.self.view_is, c.in-Pointers.is) (c.of_pointer.ensures ∙ ap pointer_item (c.of_view.ensures ∙ c.child.ensures) ∙ pointer_at c.in-Pointers.view c.args.i located.0 within)

pub of_struct-requires : goal.of_struct-requires
of_struct-requires c =
    let within = rw (← c.self.view_is, c.in-Structs.is) at c.requires in
    let located = rw c.in-Structs.is at c.self.invariant.located in
    subst IsStruct (sym c.child-in-Structs.ensures) (struct_at c.in-Structs.view c.args.i located.0 within).0

pub returns-in-Structs : goal.returns-in-Structs
returns-in-Structs c =
    let within = rw (← c.self.view_is, c.in-Structs.is) at c.requires in
    let located = rw c.in-Structs.is at c.self.invariant.located in
    rw (← c.self.view_is, c.in-Structs.is) (c.of_struct.ensures ∙ c.child-in-Structs.ensures ∙ (struct_at c.in-Structs.view c.args.i located.0 within).1)
