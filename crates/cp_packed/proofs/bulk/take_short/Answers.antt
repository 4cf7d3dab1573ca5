use Rattle.std.proofs.Common.{◌≡◌, ◌<◌, ◌+◌, ◌-◌, ◌++◌, ◌∷◌, [], ℕ, suc, List, length, get_or, replicate, refl, sym, ◌∙◌, ap, arith}
use Rattle.std.proofs.lemmas.List.{take-append-drop, length-replicate}
use Rattle.std.specs.Int.{from_le_bytes, w64}
use Rattle.cp_packed.specs.Unpacking.{header_of, run_of, first_words, laid_by}
use Rattle.cp_packed.proofs.Unpacks.{header_long, run_sparse}
use Rattle.cp_packed.proofs.Laying.{laid_group_front}
use Rattle.cp_packed.proofs.Bytes.{words_repeat}
use Rattle.cp_packed.proofs.Decoded.{header_there, word_new, run_raw}
use Rattle.cp_packed.proofs.Blocks.{zeros_part, first_set, fills_header}
use Rattle.cp_packed.proofs.bulk.take_short.Goals as goal
use Rattle.cp_packed.proofs.bulk.take_short.Goals.{else-tag-via-then-tag+else-bytes-gt0, else-tag-via-else-tag}

pub returns-then-tag-eq0 : goal.returns-then-tag-eq0
returns-then-tag-eq0 c =
    let left = c.args.left.now in
    let most = length c.args.block.now in
    let tag = get_or left 0 0 in
    let after = c.split_at.result.1.now in
    let bytes = c.split_at-2.result.0.now in
    let back = c.split_at-2.result.1.now in
    let count = get_or bytes 0 0 + 1 in
    let some : 0 < length left = omega (arith, c.if-left-lt-LONGEST.false) in
    let split : after ≡ bytes ++ back = rw (c.split_at-2.ensures.front, c.split_at-2.ensures.back) (sym (take-append-drop (c.header.result - 1) after)) in
    let zero_tag : tag ≡ 0 = omega (arith, c.if-tag-eq0.true) in
    let none : 0 ≡ run_of tag bytes = sym (run_sparse tag bytes (omega (arith, zero_tag))) in
    let same : count ≡ suc (get_or bytes 0 0) = omega arith in
    let words : replicate count 0 ≡ first_words tag bytes = ap (λ (n : ℕ). replicate n 0) same ∙ ap (λ (t : ℕ). first_words t bytes) (sym zero_tag) in
    let there = header_there [] left (replicate count 0) after bytes back tag 0 some refl c.split_at.ensures.back split (omega (arith, c.split_at-2.ensures.front_len, c.header.ensures, header_long tag)) words none in
    fills_header most count left c.args.block.now (replicate count 0) back there (words_repeat count 0 (omega arith)) (length-replicate {A = ℕ} count 0) (omega (arith, c.if-block-count.false))
    (zeros_part c.args.block.now most count c.requires.zeros (omega (arith, c.if-block-count.false)))

pub returns : goal.returns
returns c =
    let left = c.args.left.now in
    let most = length c.args.block.now in
    let tag = get_or left 0 0 in
    let after = c.split_at.result.1.now in
    let bytes = c.split_at-2.result.0.now in
    let back = c.split_at-2.result.1.now in
    let word = c.from_le_bytes.result in
    let some : 0 < length left = omega (arith, c.if-left-lt-LONGEST.false) in
    let split : after ≡ bytes ++ back = rw (c.split_at-2.ensures.front, c.split_at-2.ensures.back) (sym (take-append-drop (c.header.result - 1) after)) in
    let sparse : 0 < tag = omega (arith, c.if-tag-eq0.false) in
    let none : 0 ≡ run_of tag bytes = elim c.else-tag.branch [
      | else-tag-via-then-tag+else-bytes-gt0 w ↦ omega (arith, w.if-bytes-gt0.false, run_raw bytes tag (omega (arith, w.if-tag.true)))
      | else-tag-via-else-tag w ↦ sym (run_sparse tag bytes (omega (arith, w.if-tag.false, c.type_inv.left 0)))
    ] in
    let long : suc (length bytes) ≡ header_of tag = omega (arith, c.split_at-2.ensures.front_len, c.header.ensures, header_long tag) in
    let spread : c.scattered.result ≡ laid_by 8 tag bytes = c.scattered.ensures ∙ ap (λ (b : List ℕ). laid_by 8 tag b) split ∙ laid_group_front tag bytes back (omega (arith, c.type_inv.left 0)) long in
    let there = header_there [] left (word ∷ []) after bytes back tag 0 some refl c.split_at.ensures.back split long (word_new [] (word ∷ []) bytes tag word sparse (c.from_le_bytes.ensures ∙ ap (λ (b : List ℕ). from_le_bytes w64 b) spread) refl) none in
    fills_header most 1 left _ (word ∷ []) back there (omega (arith, c.from_le_bytes.type_inv), tt) refl (omega (arith, c.requires.some)) (first_set c.args.block.now most word c.requires.some c.requires.zeros)
