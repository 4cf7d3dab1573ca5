use Rattle.std.proofs.Common.{arith}
use Rattle.cp_frame.proofs.Opened.{next_sum, size_within}
use Rattle.cp_frame.proofs.write.words_in.Goals as goal

pub returns-then-limit-words-clause-past : goal.returns-then-limit-words-clause-past
returns-then-limit-words-clause-past c =
    let within = size_within c.args.segments.now c.loop-segment.segment-index c.segment-item.result c.loop-segment-test.true c.segment-item.is in
    omega (arith, within, c.loop-segment.invariant.words, c.if-limit-words.true, c.len-size.ensures)

pub loop-segment-preserved : goal.loop-segment-preserved
loop-segment-preserved c =
    let more = next_sum c.args.segments.now c.loop-segment.segment-index c.segment-item.result c.loop-segment-test.true c.segment-item.is in
    record {
      words = omega (arith, more, c.loop-segment.invariant.words, c.len-size.ensures);
      within = omega (arith, c.loop-segment.invariant.within, c.if-limit-words.false);
    }
