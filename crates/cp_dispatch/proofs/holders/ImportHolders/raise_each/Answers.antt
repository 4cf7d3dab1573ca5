use Rattle.std.proofs.Common.{◌+◌, drop, ap, ◌∙◌}
use Rattle.cp_dispatch.specs.Holders.{held_by_more}
use Rattle.cp_dispatch.proofs.Counting.{counted_so_far, counted_before}
use Rattle.cp_dispatch.proofs.holders.ImportHolders.raise_each.Goals as goal

pub loop-import-preserved : goal.loop-import-preserved
loop-import-preserved c =
    let i = c.loop-import.import-index in
    let h = c.loop-import.invariant in
    let raised = c.in_ok-raise.ensures.raised in (
      raised ∙ counted_so_far c.args.imports.now i _ c.loop-import-test.true c.args.self.now.counts c.loop-import.self.counts h.0,
      ap (λ t. held_by_more t (drop (i + 1) c.args.imports.now)) raised
          ∙ counted_before c.args.imports.now i _ c.loop-import-test.true c.loop-import.self.counts
          ∙ h.1,
    )
