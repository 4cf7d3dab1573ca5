use Rattle.std.proofs.Common.{arith}
use Rattle.std.proofs.lemmas.List.{drop_all}
use Rattle.cp_objects.proofs.Counting.{lowered_next}
use Rattle.cp_objects.proofs.counts.Counts.lower_each.Goals as goal

pub loop-number-preserved : goal.loop-number-preserved
loop-number-preserved c =
    let l = c.loop-number in
    λ ns are. rw c.lower.ensures (lowered_next c.args.numbers.now l.number-index 0 (omega arith) ns _ (l.invariant ns are))

pub returns : goal.returns
returns c =
    let l = c.loop-number in
    λ ns are. rw (drop_all l.number-index c.args.numbers.now (omega arith)) at (l.invariant ns are)
