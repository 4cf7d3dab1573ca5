use Rattle.std.proofs.Common.{◌≡◌, ◌+◌, ◌*◌, ◌++◌, ◌∷◌, ℕ, List, length, slice_set, ap, ◌∙◌, arith}
use borrow.Rule.Slice.PartMut.{put_mid, mid_len}
use Rattle.cp_packed.proofs.Putting.{raw_long, raw_put}
use Rattle.cp_packed.proofs.spelling.put_raw.Goals as goal

pub returns-clause-text : goal.returns-clause-text
returns-clause-text c =
    let count = length c.args.run.now in
    let word = c.copy_from_slice.new.self in
    let run = c.write_u64_into.new.dst in
    let same : word ≡ c.args.bytes.now = c.copy_from_slice.ensures.after in
    let long : length word ≡ 8 = ap (λ (b : List ℕ). length b) same ∙ omega (arith, c.told-bytes) in
    let whole : List ℕ = slice_set (put_mid 1 8 (slice_set c.args.block.now 0 255) word) 9 count in
    let whole_long : length whole ≡ length c.args.block.now = raw_long count c.args.block.now word (omega (arith, c.requires.room)) long in
    let size : length run ≡ 8 * count = c.write_u64_into.auto.dst ∙ mid_len 10 (10 + 8 * count) whole (omega (arith, whole_long, c.requires.room)) ∙ omega arith in
    raw_put count c.args.block.now word run c.requires.room long size
    ∙ ap (λ (b : List ℕ). 255 ∷ (b ++ (count ∷ run))) same ∙ ap (λ (b : List ℕ). 255 ∷ (c.args.bytes.now ++ (count ∷ b))) c.write_u64_into.ensures
