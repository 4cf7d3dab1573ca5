use Rattle.std.proofs.Common.{◌≡◌, ◌++◌, ◌-◌, ◌/◌, ℕ, List, length, take, drop, subst, ap, ◌∙◌, arith}
use Rattle.std.specs.Int.{to_le_bytes, w32}
use Rattle.cp_tree.specs.Node.{Node}
use Rattle.cp_messages.specs.Written.{message_written}
use Rattle.cp_writing.specs.Writes.{AreBytesOf, FitsIn}
use Rattle.cp_writing.proofs.Blocks.{refilled}
use Rattle.cp_stream.proofs.Straight.{block_long, straight}
use Rattle.cp_stream.proofs.write.frame_over.Goals as goal

pub overflow_cast-words : goal.overflow_cast-words
overflow_cast-words c =
    let h = rw c.in_ok-frame.was at c.write_draft_bytes-written.ensures.built in
    omega (arith, block_long c.in_ok-frame.frame.items h.words h.bytes, h.small, c.len.ensures)

pub returns-clause-written : goal.returns-clause-written
returns-clause-written c =
    let limits = c.args.limits in
    let m = c.args.message.now in
    let b = c.in_ok-frame.frame.items in
    let made = c.in_ok-draft.ensures.made in
    let h : AreBytesOf limits (message_written m) b = subst (λ (t : Node). AreBytesOf limits t b) made (rw c.in_ok-frame.was at c.write_draft_bytes-written.ensures.built) in
    let fits : FitsIn limits (message_written m) = subst (λ (t : Node). FitsIn limits t) made (rw c.in_ok-frame.was at c.write_draft_bytes-written.ensures.fits) in
    let new = c.put_size.new.frame in
    let same : length new ≡ length b = omega (arith, c.put_size.auto.frame, ap (λ (x : List ℕ). length x) c.deref_mut.ensures.value) in
    let size : c.len.result / 8 - 1 ≡ length h.words = omega (arith, block_long b h.words h.bytes, c.len.ensures) in
    straight limits m b _ h c.in_ok-draft.ensures.says c.in_ok-draft.ensures.shaped fits (omega arith)
    (refilled c.in_ok-frame.frame.len b new c.in_ok-frame.frame.ok.0 same ∙ c.put_size.ensures
    ∙ ap (λ (x : List ℕ). (take 4 x ++ to_le_bytes w32 (c.len.result / 8 - 1)) ++ drop 8 x) c.deref_mut.ensures.value ∙ ap (λ (n : ℕ). (take 4 b ++ to_le_bytes w32 n) ++ drop 8 b) size)
