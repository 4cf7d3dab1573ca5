use Rattle.std.proofs.Common.{◌≡◌, ◌⊎◌, ◌<◌, ◌≤◌, ◌^◌, ◌+◌, ◌++◌, ◌∷◌, [], ℕ, List, length, take, get_or, ap, sym, subst, ◌∙◌, arith}
use Rattle.std.specs.Int.{to_le_bytes, w64}
use Rattle.std.proofs.lemmas.List.{get_or-drop}
use Rattle.cp_packed.specs.Words.{AreWords, bytes_of}
use Rattle.cp_packed.specs.Packed.{StartsWithout, zero_bytes, tag, written}
use Rattle.cp_packed.specs.Packing.{bytes_that_count}
use Rattle.cp_packed.proofs.Sparing.{puts_sparse, puts_raw, words_by, first_word, zero_word}
use Rattle.cp_packed.specs.Packing.{PutsFront}
use Rattle.cp_packed.proofs.Putting.{front_one}
use Rattle.cp_packed.proofs.ahead.put_next.Goals as goal

pub returns-then-tag-eq0-clause-front : goal.returns-then-tag-eq0-clause-front
returns-then-tag-eq0-clause-front c =
    let words = c.args.words.now in
    let w = get_or words 0 0 in
    let t : c.tag_of-tag.result ≡ tag (bytes_that_count (to_le_bytes w64 w)) = c.tag_of-tag.ensures ∙ ap (λ (d : List ℕ). tag (bytes_that_count d)) c.to_le_bytes-bytes.ensures in
    let none : w ≡ 0 = zero_word w (omega (arith, c.type_inv.words 0)) (omega (arith, t, c.if-tag-eq0.true)) in
    let whole : words ≡ 0 ∷ c.split_at.result.1.now = first_word words c.requires.some ∙ ap (λ (vs : List ℕ). w ∷ vs) (sym c.split_at.ensures.back) ∙ ap (λ (v : ℕ). v ∷ c.split_at.result.1.now) none in
    subst (λ (vs : List ℕ). PutsFront [] (take c.put_zero_words.result.0 c.put_zero_words.new.block) vs c.put_zero_words.result.1.now) (sym whole) c.put_zero_words.ensures.front

pub returns-then-tag-lt255-clause-front : goal.returns-then-tag-lt255-clause-front
returns-then-tag-lt255-clause-front c =
    let words = c.args.words.now in
    let w = get_or words 0 0 in
    let b : c.to_le_bytes-bytes.result ≡ to_le_bytes w64 w = c.to_le_bytes-bytes.ensures in
    let t : c.tag_of-tag.result ≡ tag (bytes_that_count (to_le_bytes w64 w)) = c.tag_of-tag.ensures ∙ ap (λ (d : List ℕ). tag (bytes_that_count d)) b in
    let small : w < 2 ^ 64 = omega (arith, c.type_inv.words 0) in
    let whole = first_word words c.requires.some ∙ ap (λ (vs : List ℕ). w ∷ vs) (sym c.split_at.ensures.back) in
    let text = c.put_sparse.ensures.text ∙ ap (λ (n : ℕ). n ∷ written (bytes_that_count c.to_le_bytes-bytes.result)) t
    ∙ ap (λ (d : List ℕ). tag (bytes_that_count (to_le_bytes w64 w)) ∷ written (bytes_that_count d)) b in
    front_one (take c.put_sparse.result c.put_sparse.new.block) words c.split_at.result.1.now (puts_sparse [] (take c.put_sparse.result c.put_sparse.new.block) words c.split_at.result.1.now w small (omega (arith, t, c.if-tag-eq0.false)) (omega (arith, t, c.if-tag-lt255.true)) whole text)

pub returns-clause-front : goal.returns-clause-front
returns-clause-front c =
    let words = c.args.words.now in
    let w = get_or words 0 0 in
    let after = c.split_at.result.1.now in
    let n = c.raw_run.result in
    let run = c.split_at-2.result.0.now in
    let b : c.to_le_bytes-bytes.result ≡ to_le_bytes w64 w = c.to_le_bytes-bytes.ensures in
    let t : c.tag_of-tag.result ≡ tag (bytes_that_count (to_le_bytes w64 w)) = c.tag_of-tag.ensures ∙ ap (λ (d : List ℕ). tag (bytes_that_count d)) b in
    let small : w < 2 ^ 64 = omega (arith, c.type_inv.words 0) in
    let full : tag (bytes_that_count (to_le_bytes w64 w)) ≡ 255 = omega (arith, t, c.if-tag-lt255.false, c.tag_of-tag.type_inv) in
    let whole = first_word words c.requires.some ∙ ap (λ (vs : List ℕ). w ∷ vs) (sym c.split_at.ensures.back) in
    let are : AreWords after = words_by after (λ i. subst (λ (vs : List ℕ). get_or vs i 0 < 2 ^ 64) (sym c.split_at.ensures.back) (subst (λ m. m < 2 ^ 64) (sym (get_or-drop 1 words i 0)) (omega (arith, c.type_inv.words (1 + i))))) in
    let ends = subst (λ (vs : List ℕ). (n ≡ 255) ⊎ StartsWithout (λ v. zero_bytes v ≤ 1) vs) (sym c.split_at-2.ensures.back) c.raw_run.ensures.ends in
    let text : take c.put_raw.result c.put_raw.new.block ≡ 255 ∷ (to_le_bytes w64 w ++ (n ∷ bytes_of (take n after))) =
    c.put_raw.ensures.text ∙ ap (λ (d : List ℕ). 255 ∷ (d ++ (length run ∷ bytes_of run))) b
    ∙ ap (λ (m : ℕ). 255 ∷ (to_le_bytes w64 w ++ (m ∷ bytes_of run))) c.split_at-2.ensures.front_len
    ∙ ap (λ (vs : List ℕ). 255 ∷ (to_le_bytes w64 w ++ (n ∷ bytes_of vs))) c.split_at-2.ensures.front in
    front_one (take c.put_raw.result c.put_raw.new.block) words c.split_at-2.result.1.now (puts_raw [] (take c.put_raw.result c.put_raw.new.block) words after c.split_at-2.result.1.now w n small are full whole c.raw_run.ensures.few c.raw_run.ensures.within c.raw_run.ensures.full c.split_at-2.ensures.back ends text)
