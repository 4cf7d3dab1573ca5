use Rattle.std.proofs.Common.{◌*◌, ◌≤◌, ◌++◌, List, ℕ, take, refl, ap, ◌∙◌, arith}
use Rattle.std.proofs.lemmas.List.FromFn.{take-map-range_with_len}
use Rattle.cp_tree.specs.Elements.{element}
use Rattle.cp_tree.proofs.Numbers.{one_more_word}
use Rattle.cp_reading.proofs.elements.two_bytes_of.Goals as goal

pub loop-i-preserved : goal.loop-i-preserved
loop-i-preserved c =
    let old = c.loop-i.items.items in
    one_more_word 16 4 c.args.words.now c.loop-i.i refl (omega arith) old _ c.loop-i.invariant (c.in_ok-extend_from_slice.ensures.items ∙ ap (λ (ns : List ℕ). old ++ ns) (c.two_bytes_in.ensures))

pub returns : goal.returns
returns c =
    let ws = c.args.words.now in
    let covered : c.args.count ≤ 4 * c.loop-i.i = omega (arith, c.loop-i.auto.i-end, c.loop-i-test.false) in
    c.truncate.ensures.items ∙ ap (take c.args.count) c.loop-i.invariant ∙ take-map-range_with_len (element ws 16) 0 (4 * c.loop-i.i) c.args.count covered
