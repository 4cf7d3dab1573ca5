use Rattle.std.proofs.Common.{ap, ◌+◌, ◌∙◌}
use Rattle.cp_tables.proofs.TableLemmas.{listed, listed-insert}
use Rattle.cp_vat_state.proofs.Counting.{counted_more}
use Rattle.cp_vat_state.proofs.counts.Counts.raise.Goals as goal

pub returns-clause-raised : goal.returns-clause-raised
returns-clause-raised c = λ n.
    rw (← c.self.view_is, listed-insert c.self.inside.counts c.insert.new.self c.args.id c.in-Some.count c.in_ok-insert.ensures.updates)
    (counted_more (listed c.self.inside.counts) c.args.id c.in-Some.count n (c.in-Some.ensures.1 ∙ ap (λ k. k + 1) (rw (← c.self.view_is) at c.get.ensures)))
