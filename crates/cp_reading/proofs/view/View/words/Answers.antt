use Rattle.cp_reading.proofs.Views.{part-words}
use Rattle.cp_reading.proofs.view.View.words.Goals as goal

pub returns : goal.returns
returns c =
    let here = rw c.in-Body.is at c.self.invariant.2 in
    rw (c.words_in.ensures, here, c.lent_words.ensures.count, ← c.self.view_is) (part-words _ _ _ c.in-Body.is c.self.invariant.0)
