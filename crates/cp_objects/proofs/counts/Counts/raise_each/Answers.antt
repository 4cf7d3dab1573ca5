use Rattle.std.proofs.Common.{arith}
use Rattle.std.proofs.lemmas.List.{take_all}
use Rattle.cp_objects.proofs.Counting.{raised_next}
use Rattle.cp_objects.proofs.counts.Counts.raise_each.Goals as goal

pub loop-place-preserved : goal.loop-place-preserved
loop-place-preserved c =
    let l = c.loop-place in
    λ ns are. rw c.in-Ok.ensures.raised (raised_next c.args.numbers.now l.place 0 (omega arith) ns _ (l.invariant ns are))

pub returns-in-Err-clause-err : goal.returns-in-Err-clause-err
returns-in-Err-clause-err c = λ ns are. c.lower_each.ensures ns (rw c.in-Err.ensures.err (c.loop-place.invariant ns are))

pub returns-clause-raised : goal.returns-clause-raised
returns-clause-raised c =
    let l = c.loop-place in
    λ ns are. rw (take_all l.place c.args.numbers.now (omega arith)) at (l.invariant ns are)
