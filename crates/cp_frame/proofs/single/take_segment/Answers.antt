use Rattle.std.proofs.Common.{◌≡◌, ◌++◌, ℕ, length, take, drop, ◌∙◌, ap, arith}
use Rattle.std.proofs.Math.Seq.{take-append_seam}
use Rattle.cp_frame.proofs.Singles.{words_read}
use Rattle.cp_frame.proofs.single.take_segment.Goals as goal

pub returns : goal.returns
returns c =
    let words = c.read_u64_into.new.dst in
    let all = c.resize.new.self.items in
    let count : length words ≡ c.args.size = omega (arith, c.read_u64_into.auto.dst, c.in_ok-resize.ensures.len, c.deref_mut.ensures.len) in
    let len : c.resize.new.self.len ≡ length words = omega (arith, count, c.in_ok-resize.ensures.len) in
    ap (λ (n : ℕ). take n (words ++ drop (length words) all)) len ∙ take-append_seam words (drop (length words) all)
    ∙ words_read c.args.size c.args.bytes.now words c.requires.whole (λ i. omega (arith, c.type_inv.bytes i)) count c.read_u64_into.ensures
