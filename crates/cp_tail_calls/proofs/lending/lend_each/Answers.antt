use Rattle.std.proofs.Common.{◌+◌, drop, ap, ◌∙◌}
use Rattle.cp_tail_calls.specs.Sending.{lent_all}
use Rattle.cp_tail_calls.proofs.Counting.{lent_before}
use Rattle.cp_tail_calls.proofs.lending.lend_each.Goals as goal

pub loop-descriptor-preserved : goal.loop-descriptor-preserved
loop-descriptor-preserved c =
    let i = c.loop-descriptor.descriptor-index in
    ap (λ lent. lent_all lent (drop (i + 1) c.args.table.now)) c.in_ok-lend.ensures
    ∙ lent_before c.args.table.now i c.descriptor-item.result c.loop-descriptor-test.true c.descriptor-item.is c.loop-descriptor.lent
    ∙ c.loop-descriptor.invariant
