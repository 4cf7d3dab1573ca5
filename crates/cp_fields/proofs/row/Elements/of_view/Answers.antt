use Rattle.std.proofs.Common.{◌≡◌, ℕ, map, sym, ap, ◌∙◌, arith}
use Rattle.cp_words.specs.declared.pointer.ElementSize.{ElementSize}
use Rattle.cp_tree.specs.Elements.{numbers}
use Rattle.cp_tree.specs.declared.shape.Shape.TheVariants as shapes
use Rattle.cp_fields.specs.Items.{number_item, items_of}
use Rattle.cp_fields.proofs.RowItems.{bits_some, void_items, void_row, no_composite, no_items, packed_items, packed_row, pointer_list, struct_list}
use Rattle.cp_fields.proofs.row.Elements.of_view.Goals as goal

pub new-requires : goal.new-requires
new-requires c =
    let e = void_items c.args.view c.in-List.count (sym c.shape.ensures.is ∙ c.in-List.is ∙ ap (λ (s : ElementSize). shapes.List s c.in-List.count) c.in-Void.is) in
    record { counted = void_row c.args.view c.in-List.count e; located = e }

pub new-requires-in-Pointer : goal.new-requires-in-Pointer
new-requires-in-Pointer c =
    let p = pointer_list c.args.view c.in-List.count (sym c.shape.ensures.is ∙ c.in-List.is ∙ ap (λ (s : ElementSize). shapes.List s c.in-List.count) c.in-Pointer.is) in
    record { counted = p.1; located = (p.0, omega arith) }

pub new-requires-in-Composite : goal.new-requires-in-Composite
new-requires-in-Composite c =
    let e = sym (no_composite c.args.view c.in-List.count (sym c.shape.ensures.is ∙ c.in-List.is ∙ ap (λ (s : ElementSize). shapes.List s c.in-List.count) c.in-Composite.is)) in
    record { counted = void_row c.args.view 0 e; located = e }

pub new-requires-in_default-size : goal.new-requires-in_default-size
new-requires-in_default-size c =
    let ws = c.words-words.result.now in
    let w = c.element_bits.result in
    let n = c.in-List.count in
    let e = packed_items c.args.view c.in-List.size n ws (sym c.shape.ensures.is ∙ c.in-List.is) c.in_default-size.not-Void c.in_default-size.not-Pointer c.words-words.ensures in
    let same : items_of c.args.view ≡ map number_item (numbers ws w n) = e ∙ ap (λ (b : ℕ). map number_item (numbers ws b n)) (sym c.element_bits.ensures) in
    let sized = bits_some c.in-List.size c.in_default-size.not-Void in
    record { counted = packed_row c.args.view ws w n same; located = (rw c.element_bits.ensures sized.0, rw c.element_bits.ensures sized.1, omega arith, same) }

pub new-requires-in-Structs : goal.new-requires-in-Structs
new-requires-in-Structs c =
    let p = struct_list c.args.view c.in-Structs.words c.in-Structs.ptrs c.in-Structs.count (sym c.shape.ensures.is ∙ c.in-Structs.is) in
    record { counted = p.1; located = (p.0, omega arith) }

pub new-requires-in_default : goal.new-requires-in_default
new-requires-in_default c =
    let e = sym (no_items c.args.view (λ size n is. c.in_default.not-List size n (c.shape.ensures.is ∙ is)) (λ d k n is. c.in_default.not-Structs d k n (c.shape.ensures.is ∙ is))) in
    record { counted = void_row c.args.view 0 e; located = e }
