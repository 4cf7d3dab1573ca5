use Rattle.std.proofs.Common.{◌≡◌, ◌+◌, ◌-◌, ◌/◌, ◌^◌, ◌<◌, ◌≤◌, ◌++◌, ◌∷◌, [], ℕ, List, length, take, drop, replicate, get_or, refl, sym, subst, ap, ◌∙◌, arith}
use Rattle.std.specs.Int.{to_le_bytes, w64}
use lib.Count.{count_trailing_zeros}
use Rattle.std.proofs.Math.Seq.{drop-drop}
use Rattle.std.proofs.lemmas.List.{take-append-drop, drop_more}
use borrow.Rule.Slice.PartMut.{put_mid, same_len_mid}
use Rattle.cp_packed.specs.Packed.{StartsWithout, tag, written}
use Rattle.cp_packed.specs.Packing.{PutsFront, bytes_that_count}
use Rattle.cp_packed.proofs.Sparing.{puts_sparse}
use Rattle.cp_packed.proofs.Putting.{front_one, front_joins}
use Rattle.cp_packed.proofs.Masked.{zeros_from, not_zero}
use Rattle.cp_packed.proofs.ahead.put_ahead.Goals as goal

pub bounds-words-place : goal.bounds-words-place
bounds-words-place c =
    let some : 0 < c.mask_of-mask.result / 2 ^ c.putting.place = omega (arith, c.if-rest-eq0.false) in
    let found = zeros_from c.args.words.now c.mask_of-mask.result c.putting.place _ c.requires.many c.putting-test.true c.mask_of-mask.ensures some refl in
    omega (arith, found.0, c.requires.many)

pub putting-preserved : goal.putting-preserved
putting-preserved c =
    let words = c.args.words.now in
    let l = c.putting in
    let place = l.place in
    let filled = l.filled in
    let some : 0 < c.mask_of-mask.result / 2 ^ place = omega (arith, c.if-rest-eq0.false) in
    let count : ℕ = count_trailing_zeros 64 (c.mask_of-mask.result / 2 ^ place) in
    let found = zeros_from words c.mask_of-mask.result place count c.requires.many c.putting-test.true c.mask_of-mask.ensures some refl in
    let at : ℕ = place + count in
    let w : ℕ = get_or words at 0 in
    let back : List ℕ = drop at words in
    let rest : List ℕ = drop (at + 1) words in
    let first : back ≡ w ∷ rest = drop_more words at 0 (omega (arith, found.0, c.requires.many)) in
    let split : drop place words ≡ replicate count 0 ++ back =
    sym (take-append-drop count (drop place words)) ∙ ap (λ (ws : List ℕ). ws ++ drop count (drop place words)) found.1 ∙ ap (λ (ws : List ℕ). replicate count 0 ++ ws) (drop-drop count place words) in
    let b : c.to_le_bytes-bytes.result ≡ to_le_bytes w64 w = c.to_le_bytes-bytes.ensures in
    let t : c.tag_of-tag.result ≡ tag (bytes_that_count (to_le_bytes w64 w)) = c.tag_of-tag.ensures ∙ ap (λ (d : List ℕ). tag (bytes_that_count d)) b in
    let more : 0 < tag (bytes_that_count (to_le_bytes w64 w)) = omega (arith, t, c.if-tag-eq0.false) in
    let less : tag (bytes_that_count (to_le_bytes w64 w)) < 255 = omega (arith, t, c.if-tag.false, c.tag_of-tag.type_inv) in
    let stops = subst (λ (ws : List ℕ). StartsWithout (λ v. v ≡ 0) ws) (sym first) (not_zero w more) in
    let run = c.put_run-filled.result in
    let part = c.put_run-filled.new.block in
    let block : List ℕ = put_mid filled (length l.block - filled) l.block part in
    let long : length block ≡ length l.block = same_len_mid filled (length l.block - filled) l.block part c.put_run-filled.auto.block in
    let zeros = subst (λ (ws : List ℕ). PutsFront [] (take run part) ws back) (sym split) (c.put_run-filled.ensures.front back stops) in
    let front = front_joins filled run l.block part words (drop place words) back (omega (arith, l.invariant.1, l.invariant.2, l.invariant.3, c.putting-test.true, c.requires.room)) l.invariant.0 zeros in
    let size = c.put_sparse-filled.result in
    let next = c.put_sparse-filled.new.block in
    let text = c.put_sparse-filled.ensures.text ∙ ap (λ (n : ℕ). n ∷ written (bytes_that_count c.to_le_bytes-bytes.result)) t
    ∙ ap (λ (d : List ℕ). tag (bytes_that_count (to_le_bytes w64 w)) ∷ written (bytes_that_count d)) b in
    let group = puts_sparse [] (take size next) back rest w (omega (arith, c.type_inv.words at)) more less first text in
    let fits : filled + run ≤ length block = omega (arith, long, l.invariant.1, l.invariant.3, c.putting-test.true, c.requires.room, c.put_run-filled.ensures.within) in
    let whole = front_joins (filled + run) size block next words back rest fits front (front_one (take size next) back rest group) in
    let same : at + 1 ≡ place + (count + 1) = omega arith in (
      subst (λ (n : ℕ). PutsFront [] (take (filled + run + size) (put_mid (filled + run) (length block - (filled + run)) block next)) words (drop n words)) same whole,
      omega (arith, l.invariant.1, c.put_run-filled.ensures.little, c.put_sparse-filled.ensures.count),
      omega (arith, found.0),
      same_len_mid (filled + run) (length block - (filled + run)) block next c.put_sparse-filled.auto.block ∙ long ∙ l.invariant.3,
    )
