use Rattle.std.proofs.Common.{sym, subst}
use Rattle.cp_words.specs.Segments.{words_of}
use Rattle.cp_reading.specs.Viewed.{viewed_node}
use Rattle.cp_tree.specs.Shaped.{Shaped}
use Rattle.cp_tree.proofs.PartsShaped.{part_of-shaped}
use Rattle.cp_reading.proofs.view.View.child.Goals as goal

pub invariant_of-result-2 : goal.invariant_of-result-2
invariant_of-result-2 c =
    let S = words_of c.self.inside.segments.now in
    let whole = part_of-shaped _ c.args.i (subst (λ p. Shaped (viewed_node S p)) c.in-Body.is c.self.invariant.1) in
    (c.child_in-part.ensures.part, subst Shaped (sym c.child_in-part.ensures.node) whole, c.words_of_part.ensures)
