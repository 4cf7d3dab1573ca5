use Rattle.std.proofs.Common.{◌≡◌, ◌+◌, ◌-◌, ◌++◌, ℕ, List, length, take, drop, replicate, ◌∙◌, ap, subst, length-append, arith}
use Rattle.std.specs.Vec.{vec_len}
use Rattle.std.proofs.lemmas.List.{length-replicate}
use Rattle.std.proofs.Math.Seq.{take-append_seam}
use borrow.Rule.Slice.PartMut.{put_mid, mid_of, mid_len, same_len_mid}
use Rattle.cp_packed.specs.Groups.{FillsFront}
use Rattle.cp_packed.proofs.Bytes.{filled_up}
use Rattle.cp_packed.proofs.Blocks.{tail_put, takes_block}
use Rattle.cp_packed.proofs.bulk.take_block.Goals as goal

pub returns : goal.returns
returns c =
    let old = c.args.words.now.items in
    let start = c.len-start.result in
    let block = c.min-block.result in
    let whole = c.deref_mut.result.now in
    let part = c.fill-filled.new.block in
    let filled = c.fill-filled.result.0 in
    let n = start + block in
    let stay = c.in_ok-reserve_words.ensures.items in
    let same : vec_len c.reserve_words.new.words ≡ length c.reserve_words.new.words.items = omega arith in
    let resized = c.in_ok-resize.ensures.items ∙ ap (λ (m : ℕ). take n c.reserve_words.new.words.items ++ replicate (n - m) 0) same ∙ ap (λ (ws : List ℕ). take n ws ++ replicate (n - length ws) 0) stay in
    let held : start ≡ length old = omega (arith, c.len-start.ensures) in
    let zeros : whole ≡ old ++ replicate block 0 = c.deref_mut.ensures.value ∙ resized ∙ filled_up old n block 0 (omega (arith, held)) in
    let long : length whole ≡ n = ap (λ (ws : List ℕ). length ws) zeros ∙ length-append old (replicate block 0) ∙ omega (arith, held, length-replicate {A = ℕ} block 0) in
    let missing : length (mid_of start (length whole - start) whole) ≡ block = mid_len start (length whole) whole (omega arith) ∙ omega (arith, long) in
    let fills = subst (λ (m : ℕ). FillsFront m c.args.left.now part filled c.fill-filled.result.1.now) missing c.fill-filled.ensures in
    let front : take start whole ≡ old = ap (λ (ws : List ℕ). take start ws) zeros ∙ ap (λ (m : ℕ). take m (old ++ replicate block 0)) held ∙ take-append_seam old (replicate block 0) in
    let tail : List ℕ = put_mid start (length whole - start) whole part in
    let put : tail ≡ old ++ part = tail_put start whole part (omega (arith, long)) ∙ ap (λ (ws : List ℕ). ws ++ part) front in
    let size : length tail ≡ n = same_len_mid start (length whole - start) whole part c.fill-filled.auto.block ∙ long in
    let kept : c.resize.new.self.len ≡ length tail = omega (arith, size, c.in_ok-resize.ensures.len) in
    let after : List ℕ = drop (length tail) c.resize.new.self.items in
    let all : take c.resize.new.self.len (tail ++ after) ≡ tail = ap (λ (m : ℕ). take m (tail ++ after)) kept ∙ take-append_seam tail after in
    takes_block c.args.most block start filled old c.args.left.now part c.truncate.new.self.items c.fill-filled.result.1.now held fills (omega (arith, held, c.min-block.ensures, c.requires.more))
    (c.truncate.ensures.items ∙ ap (λ (ws : List ℕ). take (start + filled) ws) (all ∙ put))
