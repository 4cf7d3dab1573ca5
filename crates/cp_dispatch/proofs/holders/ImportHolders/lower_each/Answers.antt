use Rattle.std.proofs.Common.{◌+◌, drop, ap, ◌∙◌}
use Rattle.cp_dispatch.specs.Holders.{held_by_less}
use Rattle.cp_dispatch.proofs.Counting.{lowered_before}
use Rattle.cp_dispatch.proofs.holders.ImportHolders.lower_each.Goals as goal

pub loop-import-preserved : goal.loop-import-preserved
loop-import-preserved c =
    let i = c.loop-import.import-index in
    ap (λ t. held_by_less t (drop (i + 1) c.args.imports.now)) c.lower.ensures.lowered
    ∙ lowered_before c.args.imports.now i _ c.loop-import-test.true c.loop-import.self.counts
    ∙ c.loop-import.invariant
