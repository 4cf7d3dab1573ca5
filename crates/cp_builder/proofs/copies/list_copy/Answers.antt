use Rattle.std.proofs.Common.{◌≡◌, sym, ap, ◌∙◌}
use Rattle.cp_tree.specs.Node.{null}
use Rattle.cp_fields.specs.Pointers.{list_field}
use Rattle.cp_builder.proofs.Copied.{copy_reads}
use Rattle.cp_builder.proofs.copies.list_copy.Goals as goal

pub returns : goal.returns
returns g c =
    let size = g.T.Element.SIZE in
    let at = c.pointer-at.result in
    let some : at ≡ null → ⊥ = λ e. let is_null = c.is_null.ensures.1 e in cc in
    copy_reads c.args.places.now size at c.args.list.now c.of-again.result c.pointer_copy.result (c.of-again.ensures ∙ ap (list_field size) c.reborrow.ensures) (sym c.is_err.ensures.value ∙ c.if-is_err.false)
    c.pointer-at.ensures some c.pointer_copy.ensures.copied
