use Rattle.std.proofs.Common.{◌≡◌, ◌<◌, length, get_or, List, ℕ, subst, arith}
use Rattle.std.specs.Global.{Vec}
use Rattle.cp_frame.proofs.Opened.{next_sum, size_within}
use Rattle.cp_frame.proofs.frame.OpenFrame.kept_words.Goals as goal

pub overflow_add-words-in-loop-segment : goal.overflow_add-words-in-loop-segment
overflow_add-words-in-loop-segment c =
    let vs = c.args.self.now.segments.items in
    let i = c.loop-segment.segment-index in
    let v = c.segment-item.result in
    let inside : i < length vs = omega (arith, c.loop-segment-test.true, c.deref-segment-items.ensures.len) in
    let read = subst (λ (us : List (Vec ℕ)). v ≡ get_or us i v) c.deref-segment-items.ensures.value c.segment-item.is in
    omega (arith, size_within vs i v inside read, c.loop-segment.invariant, c.requires, c.len-words.ensures)

pub loop-segment-preserved : goal.loop-segment-preserved
loop-segment-preserved c =
    let vs = c.args.self.now.segments.items in
    let i = c.loop-segment.segment-index in
    let v = c.segment-item.result in
    let inside : i < length vs = omega (arith, c.loop-segment-test.true, c.deref-segment-items.ensures.len) in
    let read = subst (λ (us : List (Vec ℕ)). v ≡ get_or us i v) c.deref-segment-items.ensures.value c.segment-item.is in
    omega (arith, next_sum vs i v inside read, c.loop-segment.invariant, c.len-words.ensures)
