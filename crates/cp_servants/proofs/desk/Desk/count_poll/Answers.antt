use Rattle.std.proofs.Common.{◌<◌, length, slice_index_or, ap, arith}
use Rattle.std.proofs.lemmas.List.Edits.{map_over_more}
use Rattle.cp_servants.specs.Samples.{polled}
use Rattle.cp_servants.proofs.desk.Desk.count_poll.Goals as goal

pub loop-due-preserved : goal.loop-due-preserved
loop-due-preserved c =
    let l = c.loop-due in
    let same = ap length c.deref_mut-due-items.ensures.value in
    let in_range : l.due-index < length c.args.self.now.due.items = omega (arith, same) in
    rw c.saturating_sub-due.ensures (map_over_more polled c.args.self.now.due.items l.due-items l.due-index (slice_index_or l.due-items l.due-index c.due-item.result) in_range l.invariant (ap (λ d. slice_index_or l.due-items l.due-index d) c.due-item.is))
