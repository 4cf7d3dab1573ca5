use Rattle.std.proofs.Common.{◌≡◌, ◌<◌, length, sym, ◌∙◌, arith, zero-add}
use Rattle.std.proofs.lemmas.List.FromFn.{get_or-map-range_with_len}
use Rattle.cp_tree.specs.Elements.{element}
use Rattle.cp_fields.proofs.RowItems.{length-numbers}
use Rattle.cp_fields.proofs.bytes.DataReader.get.Goals as goal

pub number_at-requires-clause-small : goal.number_at-requires-clause-small
number_at-requires-clause-small c =
    let counted : length c.args.self.now ≡ c.in-Words.field-1 = rw (← c.self.view_is, c.in-Words.is) (length-numbers _ 8 _) in
    omega (arith, counted, c.requires, rw c.in-Words.is at c.self.invariant)

pub returns-in-Words : goal.returns-in-Words
returns-in-Words c =
    let counted : length c.args.self.now ≡ c.in-Words.field-1 = rw (← c.self.view_is, c.in-Words.is) (length-numbers _ 8 _) in
    let inside : c.args.i < c.in-Words.field-1 = omega (arith, counted, c.requires) in
    rw (← c.self.view_is, c.in-Words.is) (c.number_at.ensures.value ∙ sym (get_or-map-range_with_len (element c.in-Words.words.now 8) 0 c.in-Words.field-1 c.args.i c.args.i 0 inside (zero-add c.args.i)))
