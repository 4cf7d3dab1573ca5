use Rattle.std.proofs.Common.{◌≡◌, ◌≤◌, length, sym, ◌∙◌, arith}
use Rattle.std.proofs.lemmas.List.FromFn.{take-map-range_with_len}
use Rattle.cp_tree.specs.Elements.{element}
use Rattle.cp_fields.proofs.RowItems.{length-numbers}
use Rattle.cp_fields.proofs.bytes.DataReader.front.Goals as goal

pub of_words-requires : goal.of_words-requires
of_words-requires c =
    let counted : length c.args.self.now ≡ c.in-Words.field-1 = rw (← c.self.view_is, c.in-Words.is) (length-numbers _ 8 _) in
    omega (arith, counted, c.requires, rw c.in-Words.is at c.self.invariant)

pub returns-in-Words : goal.returns-in-Words
returns-in-Words c =
    let counted : length c.args.self.now ≡ c.in-Words.field-1 = rw (← c.self.view_is, c.in-Words.is) (length-numbers _ 8 _) in
    let within : c.args.count ≤ c.in-Words.field-1 = omega (arith, counted, c.requires) in
    rw (← c.self.view_is, c.in-Words.is) (c.of_words.ensures ∙ sym (take-map-range_with_len (element c.in-Words.words.now 8) 0 c.in-Words.field-1 c.args.count within))
