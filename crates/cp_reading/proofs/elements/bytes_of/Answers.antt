use Rattle.std.proofs.Common.{◌≡◌, ◌*◌, ◌+◌, ◌/◌, ◌==◌, ◌++◌, true, List, ℕ, [], length, flat_map, take, sym, ap, ◌∙◌, arith}
use Rattle.std.proofs.lemmas.Bool.Decides.{nat_tests}
use Rattle.std.proofs.lemmas.List.{nil_from_length, append-nil}
use Rattle.std.proofs.lemmas.List.FromFn.{take-map-range_with_len}
use Rattle.std.specs.Int.{to_le_bytes, w64}
use Rattle.cp_tree.specs.Elements.{element}
use Rattle.cp_tree.proofs.Numbers.{first_bytes}
use Rattle.cp_reading.proofs.elements.bytes_of.Goals as goal

none_left : (left : List ℕ) → (length left == 0) ≡ true → left ≡ []
none_left left e = nil_from_length left (grind (arith, nat_tests, e))

pub returns : goal.returns
returns c =
    let ws = c.args.words.now in
    let whole = (c.args.count + 7) / 8 in
    let items = c.writing.items.items in
    let none = none_left c.writing.left.now (sym c.is_empty.ensures ∙ c.writing-test.false) in
    let all : items ≡ flat_map (to_le_bytes w64) (take whole ws) = sym (append-nil items) ∙ ap (λ left. items ++ flat_map (to_le_bytes w64) left) (sym none) ∙ c.writing.invariant in
    c.truncate.ensures.items ∙ ap (take c.args.count) (all ∙ first_bytes ws whole (omega (arith, c.requires))) ∙ take-map-range_with_len (element ws 8) 0 (8 * whole) c.args.count (omega arith)
