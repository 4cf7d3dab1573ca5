use Rattle.std.proofs.Common.{◌≡◌, ◌<◌, ◌+◌, ◌-◌, ◌++◌, ◌∷◌, [], ℕ, suc, List, length, take, get_or, replicate, refl, sym, ◌∙◌, ap, subst, arith}
use Rattle.std.specs.Vec.{vec_len}
use Rattle.std.proofs.lemmas.List.{take-append-drop, length-replicate, get_or-drop}
use Rattle.cp_packed.specs.Unpacking.{header_of, run_of, laid_by}
use Rattle.cp_packed.proofs.Unpacks.{header_long, run_sparse}
use Rattle.std.specs.Int.{from_le_bytes, w64}
use Rattle.cp_packed.proofs.Laying.{laid_group_front}
use Rattle.cp_packed.proofs.Bytes.{take_small, filled_up, words_repeat}
use Rattle.cp_packed.proofs.Decoded.{header_there, zeros_new, word_new, run_raw}
use Rattle.cp_packed.proofs.Bulks.{takes_header}
use Rattle.cp_packed.proofs.bulk.take_header.Goals as goal
use Rattle.cp_packed.proofs.bulk.take_header.Goals.{then-tag, else-tag, else-missing-eq1-via-then-missing-eq1+else-count-gt0, else-missing-eq1-via-else-missing-eq1}

pub returns-then-tag-eq0-clause-takes : goal.returns-then-tag-eq0-clause-takes
returns-then-tag-eq0-clause-takes c =
    let left = c.args.left.now in
    let old = c.args.words.now.items in
    let tag = get_or left 0 0 in
    let after = c.split_at.result.1.now in
    let bytes = c.split_at-2.result.0.now in
    let back = c.split_at-2.result.1.now in
    let count = get_or bytes 0 0 + 1 in
    let some : 0 < length left = omega (arith, c.if-left-lt-LONGEST.false) in
    let split : after ≡ bytes ++ back = rw (c.split_at-2.ensures.front, c.split_at-2.ensures.back) (sym (take-append-drop (c.header.result - 1) after)) in
    let stay = c.in_ok-reserve_words.ensures.items in
    let n = c.len-then-tag-eq0.result + count in
    let same : vec_len c.reserve_words.new.words ≡ length c.reserve_words.new.words.items = omega arith in
    let resized = c.in_ok-resize.ensures.items ∙ ap (λ (m : ℕ). take n c.reserve_words.new.words.items ++ replicate (n - m) 0) same ∙ ap (λ (ws : List ℕ). take n ws ++ replicate (n - length ws) 0) stay in
    let held : c.len-then-tag-eq0.result ≡ length old = c.len-then-tag-eq0.ensures ∙ same ∙ ap (λ (ws : List ℕ). length ws) stay in
    let zero_tag : tag ≡ 0 = omega (arith, c.if-tag-eq0.true) in
    let none : run_of tag bytes ≡ 0 = run_sparse tag bytes (omega (arith, zero_tag)) in
    let new : c.resize.new.self.items ≡ old ++ replicate count 0 = resized ∙ filled_up old n count 0 (omega (arith, held)) in
    let there = header_there old left c.resize.new.self.items after bytes back tag c.args.run.now some refl c.split_at.ensures.back split
    (omega (arith, c.split_at-2.ensures.front_len, c.header.ensures, header_long tag)) (zeros_new old c.resize.new.self.items bytes tag n zero_tag (omega (arith, held)) resized) (c.requires.none ∙ sym none) in
    takes_header c.args.most old c.resize.new.self.items (replicate count 0) left back c.args.run.now c.args.run.now c.requires.none there new (words_repeat count 0 (omega arith)) (omega (arith, c.requires.none))
    (omega (arith, length-replicate {A = ℕ} count 0, c.if-missing-count.false, c.len.ensures)) (λ e. c.requires.none)

pub returns-clause-takes : goal.returns-clause-takes
returns-clause-takes c =
    let left = c.args.left.now in
    let old = c.args.words.now.items in
    let tag = get_or left 0 0 in
    let after = c.split_at.result.1.now in
    let bytes = c.split_at-2.result.0.now in
    let back = c.split_at-2.result.1.now in
    let word = c.from_le_bytes.result in
    let some : 0 < length left = omega (arith, c.if-left-lt-LONGEST.false) in
    let split : after ≡ bytes ++ back = rw (c.split_at-2.ensures.front, c.split_at-2.ensures.back) (sym (take-append-drop (c.header.result - 1) after)) in
    let pushed : c.push.new.self.items ≡ old ++ word ∷ [] = c.in_ok-push.ensures.items ∙ ap (λ (ws : List ℕ). ws ++ word ∷ []) c.in_ok-reserve_words-2.ensures.items in
    let sparse : 0 < tag = omega (arith, c.if-tag-eq0.false) in
    let run : c.if-tag.count ≡ run_of tag bytes = elim c.if-tag.branch [
      | then-tag w ↦ w.count-is ∙ run_raw bytes tag (omega (arith, w.if-tag.true))
      | else-tag w ↦ w.count-is ∙ sym (run_sparse tag bytes (omega (arith, w.if-tag.false, c.type_inv.left 0)))
    ] in
    let after_small : (i : ℕ) → get_or after i 0 < 256 = λ i. omega (arith, ap (λ (b : List ℕ). get_or b i 0) c.split_at.ensures.back, get_or-drop 1 left i 0, c.type_inv.left (1 + i)) in
    let bytes_small = subst (λ (b : List ℕ). (i : ℕ) → get_or b i 0 < 256) (sym c.split_at-2.ensures.front) (take_small (c.header.result - 1) after after_small) in
    let few : c.if-tag.count < 256 = elim c.if-tag.branch [
      | then-tag w ↦ omega (arith, w.count-is, bytes_small 8)
      | else-tag w ↦ omega (arith, w.count-is)
    ] in
    let last : length old + 1 ≡ c.args.most → c.if-tag.count ≡ 0 = λ e. elim c.else-missing-eq1.branch [
      | else-missing-eq1-via-then-missing-eq1+else-count-gt0 w ↦ omega (arith, w.if-count-gt0.false)
      | else-missing-eq1-via-else-missing-eq1 w ↦ absurd (omega (arith, w.if-missing-eq1.false, e, c.len.ensures))
    ] in
    let long : suc (length bytes) ≡ header_of tag = omega (arith, c.split_at-2.ensures.front_len, c.header.ensures, header_long tag) in
    let spread : c.scattered.result ≡ laid_by 8 tag bytes = c.scattered.ensures ∙ ap (λ (b : List ℕ). laid_by 8 tag b) split ∙ laid_group_front tag bytes back (omega (arith, c.type_inv.left 0)) long in
    let there = header_there old left c.push.new.self.items after bytes back tag c.if-tag.count some refl c.split_at.ensures.back split
    long (word_new old c.push.new.self.items bytes tag word sparse (c.from_le_bytes.ensures ∙ ap (λ (b : List ℕ). from_le_bytes w64 b) spread) pushed) run in
    takes_header c.args.most old c.push.new.self.items (word ∷ []) left back c.args.run.now c.if-tag.count c.requires.none there pushed (omega (arith, c.from_le_bytes.type_inv), tt) few (omega (arith, c.requires.more)) last
