use Rattle.std.proofs.Common.{◌∙◌, ◌-◌, arith, ap}
use Rattle.cp_tables.proofs.TableLemmas.{get-listed, listed, listed-insert, listed-remove}
use Rattle.cp_vat_state.proofs.Counting.{counted_less, counted_out, not_counted}
use Rattle.cp_vat_state.proofs.counts.Counts.lower.Goals as goal

pub unreachable-requires : goal.unreachable-requires
unreachable-requires c =
    let counted = rw (← c.self.view_is) at c.get-count.ensures in
    omega (arith, c.if-count-gt1.true, counted, not_counted _ (get-listed c.self.inside.counts c.args.id ∙ c.in-Err.ensures.absent))

pub returns-in-Ok : goal.returns-in-Ok
returns-in-Ok c = λ n.
    let counted = rw (← c.self.view_is) at c.get-count.ensures in
    rw (← c.self.view_is, listed-insert c.self.inside.counts c.insert.new.self c.args.id _ c.in-Ok.ensures.updates)
    (counted_less (listed c.self.inside.counts) c.args.id _ n (ap (λ k. k - 1) counted))

pub returns-else-count-gt1 : goal.returns-else-count-gt1
returns-else-count-gt1 c = λ n.
    let counted = rw (← c.self.view_is) at c.get-count.ensures in
    rw (← c.self.view_is, listed-remove c.self.inside.counts c.remove.new.self c.args.id c.remove.ensures.updates)
    (counted_out (listed c.self.inside.counts) c.args.id n (rw (← counted) (omega (arith, c.if-count-gt1.false))))
