use Rattle.std.proofs.Common.{◌≡◌, ◌+◌, ◌*◌, arith, refl, ap, ◌∙◌}
use Rattle.cp_reading.proofs.Views.{ok_is_ok, read-node, part-end, part-struct, part-pointer, part-element, element-inside}
use Rattle.cp_reading.specs.Reading.{body_words}
use Rattle.cp_reading.specs.declared.area.Form.TheVariants as forms
use Rattle.cp_reading.proofs.view.child_in.Goals as goal

pub returns-then-i-ptrs-clause-node : goal.returns-then-i-ptrs-clause-node
returns-then-i-ptrs-clause-node c = part-end _ _ _ refl c.requires.part _ (rw c.in-Struct.is (omega arith))

pub viewed_in-requires-clause-checked : goal.viewed_in-requires-clause-checked
viewed_in-requires-clause-checked c = ok_is_ok _ _ (part-struct _ _ _ refl c.requires.part _ _ _ c.in-Struct.is (omega arith)).1

pub returns-then-i-count-clause-node : goal.returns-then-i-count-clause-node
returns-then-i-count-clause-node c = part-end _ _ _ refl c.requires.part _ (rw (c.in-List.is, c.in-Pointer.is) (omega arith))

pub viewed_in-requires-in-Pointer-clause-checked : goal.viewed_in-requires-in-Pointer-clause-checked
viewed_in-requires-in-Pointer-clause-checked c = ok_is_ok _ _ (part-pointer _ _ _ refl c.requires.part _ _ (c.in-List.is ∙ ap (λ s. forms.List s c.in-List.count) c.in-Pointer.is) (omega arith)).1

pub returns-then-i-count-2-clause-node : goal.returns-then-i-count-2-clause-node
returns-then-i-count-2-clause-node c = part-end _ _ _ refl c.requires.part _ (rw c.in-Structs.is (omega arith))

pub returns-else-i-ptrs-clause-node : goal.returns-else-i-ptrs-clause-node
returns-else-i-ptrs-clause-node c = c.viewed_in.ensures.node ∙ read-node _ _ _ (part-struct _ _ _ refl c.requires.part _ _ _ c.in-Struct.is (omega arith)).1

pub returns-else-i-count-clause-node : goal.returns-else-i-count-clause-node
returns-else-i-count-clause-node c = c.viewed_in-in-Pointer.ensures.node ∙ read-node _ _ _ (part-pointer _ _ _ refl c.requires.part _ _ (c.in-List.is ∙ ap (λ s. forms.List s c.in-List.count) c.in-Pointer.is) (omega arith)).1

pub returns-else-i-count-2-clause-node : goal.returns-else-i-count-2-clause-node
returns-else-i-count-2-clause-node c = read-node _ _ _ (part-element _ _ _ refl c.requires.part _ _ _ _ c.in-Structs.is (omega arith)).1

pub returns-else-i-count-2-clause-part : goal.returns-else-i-count-2-clause-part
returns-else-i-count-2-clause-part c =
    let q = c.args.area.start in
    let d = c.in-Structs.words in
    let n = c.in-Structs.ptrs in
    let inside = element-inside q d n c.in-Structs.count c.args.i c.if-i-count-2.false in
    let words : body_words c.args.area.form ≡ c.in-Structs.count * (d + n) = rw c.in-Structs.is refl in
    ((c.requires.part.0.0, omega (arith, inside, words, c.requires.part.0.1), tt), omega (arith, inside, words, c.requires.part.1), ok_is_ok _ _ (part-element _ _ _ refl c.requires.part _ _ _ _ c.in-Structs.is (omega arith)).1)
