use Rattle.std.proofs.Common.{◌==◌, arith}
use Rattle.std.proofs.lemmas.List.FromFn.{map-range_with_len_more}
use Rattle.cp_tree.specs.Elements.{element}
use Rattle.cp_reading.proofs.elements.bits_of.Goals as goal

pub loop-i-preserved : goal.loop-i-preserved
loop-i-preserved c =
    rw (map-range_with_len_more (λ k. element c.args.words.now 1 k == 1) 0 c.loop-i.i c.loop-i.i (omega arith), ← c.loop-i.invariant, ← c.element_of.ensures.value) c.in_ok-push.ensures.items
