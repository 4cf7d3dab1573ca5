use Rattle.std.proofs.Common.{ℕ, List, ◌++◌, drop, ap, ◌∙◌}
use Rattle.std.proofs.lemmas.List.{drop-append-le}
use Rattle.cp_connection.proofs.Results.{after_ok}
use Rattle.cp_connection.proofs.outgoing.Outgoing.put.Goals as goal

pub returns-clause-put : goal.returns-clause-put
returns-clause-put c =
    let o = c.self.inside in
    after_ok c.put_after.result c.put_after.ensures.put (λ h. (
      h.0,
      h.1,
      ap (λ (b : List ℕ). drop o.written b) h.2 ∙ drop-append-le o.written o.block.items h.0 c.self.invariant.front ∙ ap (λ (b : List ℕ). b ++ h.0) (c.self.view_is ∙ c.move_up.ensures),
    ))
