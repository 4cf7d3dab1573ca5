-- Elements of words, a word at a time.
use Rattle.std.proofs.Common.{◌≡◌, ℕ, zero, suc, ◌+◌, ◌*◌, ◌/◌, ◌%◌, ◌^◌, ◌<◌, ◌≤◌, ◌++◌, List, [], ◌∷◌, length, flat_map, take, refl, sym, ap, ◌∙◌, arith}
use Rattle.std.proofs.Math.Nat.{add-mul, mul_assoc, mul_comm, mul-zero, mul-suc, mul-lt-mul_of_pos_right, pos_of_ne-zero, div-one, div-add-mod', div-eq_of_lt, mod-eq_of_lt}
use Rattle.std.proofs.lemmas.Nat.{div-mul-add, mod-mul-add, mod_below}
use Rattle.std.proofs.lemmas.List.{append_assoc, append-nil, get_or-take, length-take}
use Rattle.std.proofs.lemmas.List.FromFn.{fill_by_all, map-range_with_len_more}
use Rattle.std.proofs.lemmas.Grind.{flat_map-append}
use Rattle.std.proofs.Math.Seq.{take-suc}
use Rattle.std.specs.Prelude.{slice_index}
use Rattle.std.specs.Int.{to_le_bytes, w64}
use Rattle.cp_tree.specs.Elements.{element, numbers}

-- where a digit of w bits stands, of those that a word has
pub place : (w per k : ℕ) → per * w ≡ 64 → 0 < per → (k * w / 64 ≡ k / per) × (k * w % 64 ≡ k % per * w)
place w per k e some =
    let wide : 0 < w = pos_of_ne-zero (λ none. omega (arith, sym e ∙ ap (λ n. per * n) none ∙ mul-zero per)) in
    let small : k % per * w < per * w = mul-lt-mul_of_pos_right (mod_below k per some) wide in
    let inside : k % per * w < 64 = omega (arith, small, e) in
    let whole : k * w ≡ k / per * 64 + k % per * w =
    ap (λ n. n * w) (sym (div-add-mod' k per)) ∙ add-mul (k / per * per) (k % per) w ∙ ap (λ n. n + k % per * w) (mul_assoc (k / per) per w ∙ ap (λ n. k / per * n) e) in
    (rw whole (div-mul-add (k / per) 64 (k % per * w) inside), rw whole (mod-mul-add (k / per) 64 (k % per * w) inside))

-- a word's elements, among those of all words and alone
module _ (w per : ℕ) (ws : List ℕ) (i : ℕ) (whole : per * w ≡ 64) (some : 0 < per) where
  same_element : (m : ℕ) → m < per → element ws w (per * i + m) ≡ element (slice_index ws i ∷ []) w m
  same_element m lt =
      let turned : per * i + m ≡ i * per + m = omega (arith, mul_comm per i) in
      let word : (per * i + m) / per ≡ i = rw turned (div-mul-add i per m lt) in
      let rest : (per * i + m) % per ≡ m = rw turned (mod-mul-add i per m lt) in
      let there = place w per (per * i + m) whole some in
      let alone = place w per m whole some in
      rw (there.0, there.1, alone.0, alone.1, word, rest, div-eq_of_lt lt, mod-eq_of_lt lt) refl

  with_part : (m : ℕ) → m ≤ per → numbers ws w (per * i + m) ≡ numbers ws w (per * i) ++ numbers (slice_index ws i ∷ []) w m
  with_part zero le =
      let none : per * i + 0 ≡ per * i = omega arith in
      rw none (sym (append-nil (numbers ws w (per * i))))
  with_part (suc m) le =
      let before = numbers ws w (per * i) in
      let word = slice_index ws i ∷ [] in
      let next : per * i + suc m ≡ per * i + m + 1 = omega arith in
      let after : suc m ≡ m + 1 = omega arith in
      let here : numbers ws w (per * i + suc m) ≡ numbers ws w (per * i + m) ++ element ws w (per * i + m) ∷ [] = ap (numbers ws w) next ∙ map-range_with_len_more (element ws w) 0 (per * i + m) (per * i + m) (omega arith) in
      let alone : numbers word w (suc m) ≡ numbers word w m ++ element word w m ∷ [] = ap (numbers word w) after ∙ map-range_with_len_more (element word w) 0 m m (omega arith) in
      here ∙ rw (alone, with_part m (omega (arith, le)), same_element m (omega (arith, le))) (append_assoc before (numbers word w m) (element word w m ∷ []))

  pub one_more_word : (old new : List ℕ) → old ≡ numbers ws w (per * i) → new ≡ old ++ numbers (slice_index ws i ∷ []) w per → new ≡ numbers ws w (per * (i + 1))
  one_more_word old new so_far push =
      let after : suc i ≡ i + 1 = omega arith in
      let next : per * (i + 1) ≡ per * i + per = ap (λ n. per * n) (sym after) ∙ mul-suc per i in
      rw (push, so_far, next) (sym (with_part per (omega arith)))

-- the bytes of a word
pub bytes_in : (n : ℕ) → to_le_bytes w64 n ≡ numbers (n ∷ []) 8 8
bytes_in n = rw (div-one n) refl

-- the bytes of the first words
pub first_bytes : (ws : List ℕ) (n : ℕ) → n ≤ length ws → flat_map (to_le_bytes w64) (take n ws) ≡ numbers ws 8 (8 * n)
first_bytes ws zero le = refl
first_bytes ws (suc m) le =
    let word = slice_index ws m in
    let before = flat_map (to_le_bytes w64) (take m ws) in
    let after : m + 1 ≡ suc m = omega arith in
    let more : flat_map (to_le_bytes w64) (take (suc m) ws) ≡ before ++ to_le_bytes w64 word =
    ap (flat_map (to_le_bytes w64)) (take-suc ws m 0 (omega (arith, le))) ∙ flat_map-append (to_le_bytes w64) (take m ws) (word ∷ []) ∙ ap (λ ns. before ++ ns) (append-nil (to_le_bytes w64 word)) in
    one_more_word 8 8 ws m refl (omega arith) before _ (first_bytes ws m (omega (arith, le))) (more ∙ ap (λ ns. before ++ ns) (bytes_in word)) ∙ ap (λ n. numbers ws 8 (8 * n)) after

-- whole words are elements of themselves
pub first_words : (ws : List ℕ) (n : ℕ) → n ≤ length ws → ((k : ℕ) → slice_index ws k < 2 ^ 64) → take n ws ≡ numbers ws 64 n
first_words ws n le all = fill_by_all (element ws 64) (take n ws) n 0 (omega (arith, length-take n ws, le))
    (λ k lt.
    let at = place 64 1 k refl (omega arith) in
    let word : k / 1 ≡ k = div-one k in
    let rest : k % 1 * 64 ≡ 0 = omega arith in
    rw (at.0, at.1, word, rest, get_or-take n ws k 0 lt, div-one (slice_index ws k)) (sym (mod-eq_of_lt (all k))))
