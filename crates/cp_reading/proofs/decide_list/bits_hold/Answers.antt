use Rattle.std.proofs.Common.{◌≡◌, length, sym, ap, ◌∙◌}
use Rattle.std.proofs.lemmas.Slice.Eq.{slice_eq-Decides}
use Rattle.std.specs.Cmp.{booleans_Decides}
use Rattle.cp_words.specs.declared.pointer.ElementSize.TheVariants as sizes
use Rattle.cp_tree.specs.Elements.{flags}
use Rattle.cp_tree.specs.Node.{bits}
use Rattle.cp_reading.specs.declared.area.Form.TheVariants as forms
use Rattle.cp_reading.proofs.Decided.{same_bits}
use Rattle.cp_reading.proofs.decide_list.bits_hold.Goals as goal

pub returns : goal.returns
returns c =
    let items = c.args.items.now in
    let number : c.in-Some.count ≡ length items = c.in-Some.ensures.same.0 in
    let form : forms.List sizes.Bit (length items) ≡ c.args.form = sym c.in-Some.ensures.same.1 in
    let read : c.as_slice.result.now ≡ flags c.args.words.now (length items) = c.as_slice.ensures.value ∙ c.in_ok-bits_of.ensures ∙ ap (flags c.args.words.now) number in
    let decides = slice_eq-Decides booleans_Decides _ _ _ c.eq.ensures in
    (λ e. (form, ap bits (sym (sym read ∙ decides.0 e))), λ k. decides.1 (read ∙ sym (same_bits k.1)))
