-- The words of a segment as bytes, after each step of writing.
use Rattle.std.proofs.Common.{◌≡◌, ℕ, zero, suc, ◌+◌, ◌*◌, ◌/◌, ◌^◌, ◌<◌, ◌≤◌, List, [], ◌∷◌, ◌++◌, length, map, take, drop, set, replicate, get_or, refl, sym, ◌∙◌, ap, subst, append_assoc, length-drop, arith}
use Rattle.std.specs.Int.{to_le_bytes, from_le_bytes, w64}
use Rattle.std.specs.Simd.{first_chunks}
use Rattle.std.proofs.lemmas.Grind.{flat_map-append}
use Rattle.std.proofs.Math.Seq.{take-add}
use Rattle.std.proofs.lemmas.List.{append-nil, drop-drop, length-take-le, nil_from_length, take_all}
use Rattle.std.proofs.lemmas.Nat.{from_le_bytes-to_le_bytes_8}
use Rattle.cp_packed.specs.Words.{AreWords, bytes_of, words_in}
use Rattle.cp_packed.proofs.Bytes.{all-append, words_first, words_repeat}
use Rattle.cp_writing.specs.Blocks.{block_of, words_of_block, IsBlock}
use Rattle.cp_writing.specs.Packed.{value}

pub length_bytes_of : (ws : List ℕ) → length (bytes_of ws) ≡ 8 * length ws
length_bytes_of [] = refl
length_bytes_of (w ∷ ws) = omega (arith, length_bytes_of ws)

chunks_back : (ws : List ℕ) → AreWords ws → map (from_le_bytes w64) (first_chunks 8 (length ws) (bytes_of ws)) ≡ ws
chunks_back [] h = refl
chunks_back (w ∷ ws) h =
    ap (λ (v : ℕ). v ∷ map (from_le_bytes w64) (first_chunks 8 (length ws) (bytes_of ws))) (from_le_bytes-to_le_bytes_8 w h.0) ∙ ap (λ (vs : List ℕ). w ∷ vs) (chunks_back ws h.1)

-- the words that the bytes of words are
pub words_back : (ws : List ℕ) → AreWords ws → words_in (bytes_of ws) ≡ ws
words_back ws h =
    let count : length (bytes_of ws) / 8 ≡ length ws = omega (arith, length_bytes_of ws) in
    ap (λ (n : ℕ). map (from_le_bytes w64) (first_chunks 8 n (bytes_of ws))) count ∙ chunks_back ws h

-- a block of these words
pub holds : (b ws : List ℕ) → b ≡ block_of ws → AreWords ws → (words_of_block b ≡ ws) × IsBlock b
holds b ws e h =
    let is : words_of_block b ≡ ws = ap (λ (x : List ℕ). words_of_block x) e ∙ words_back ws h in
    (is, record { is = e ∙ ap (λ (x : List ℕ). block_of x) (sym is); words = subst (λ (x : List ℕ). AreWords x) (sym is) h })

-- words that were appended, as their bytes
pub appended : (b new more : List ℕ) → IsBlock b → new ≡ b ++ bytes_of more → AreWords more → (words_of_block new ≡ words_of_block b ++ more) × IsBlock new
appended b new more h e k =
    let ws = words_of_block b in
    let table : List ℕ = replicate 8 0 in
    holds new (ws ++ more)
    (e ∙ ap (λ (x : List ℕ). x ++ bytes_of more) h.is ∙ append_assoc table (bytes_of ws) (bytes_of more) ∙ ap (λ (x : List ℕ). table ++ x) (sym (flat_map-append (to_le_bytes w64) ws more)))
    (all-append (λ w. w < 2 ^ 64) ws more h.words k)

pub pushed : (b new : List ℕ) (w : ℕ) → IsBlock b → new ≡ b ++ to_le_bytes w64 w → w < 2 ^ 64 → (words_of_block new ≡ words_of_block b ++ w ∷ []) × IsBlock new
pushed b new w h e k = appended b new (w ∷ []) h e (k, tt)

-- as blank words
zeros_of : (n : ℕ) → bytes_of (replicate n 0) ≡ replicate (8 * n) 0
zeros_of zero = refl
zeros_of (suc n) =
    let more : 8 * suc n ≡ suc (suc (suc (suc (suc (suc (suc (suc (8 * n)))))))) = omega arith in
    ap (λ (x : List ℕ). replicate 8 0 ++ x) (zeros_of n) ∙ ap (λ (m : ℕ). replicate m 0) (sym more)

pub blanked : (b new : List ℕ) (n : ℕ) → IsBlock b → new ≡ b ++ replicate (8 * n) 0 → (words_of_block new ≡ words_of_block b ++ replicate n 0) × IsBlock new
blanked b new n h e = appended b new (replicate n 0) h (e ∙ ap (λ (x : List ℕ). b ++ x) (sym (zeros_of n))) (words_repeat n 0 (omega arith))

-- as the bytes of those that bytes are
pub joined : (b new more : List ℕ) → IsBlock b → new ≡ b ++ take (length more / 8 * 8) more → ((i : ℕ) → get_or more i 0 < 256) → (words_of_block new ≡ words_of_block b ++ words_in more) × IsBlock new
joined b new more h e small =
    let n = length more / 8 in
    let words = words_first n more (omega arith) small in
    let count : n * 8 ≡ 8 * n = omega arith in
    appended b new (words_in more) h (e ∙ ap (λ (m : ℕ). b ++ take m more) count ∙ ap (λ (x : List ℕ). b ++ x) (sym words.2)) words.1

pub length_block : (b : List ℕ) → IsBlock b → length b ≡ 8 + 8 * length (words_of_block b)
length_block b h = omega (arith, ap (λ (x : List ℕ). length x) h.is, length_bytes_of (words_of_block b))

pub words_by : (ws : List ℕ) → ((i : ℕ) → get_or ws i 0 < 2 ^ 64) → AreWords ws
words_by [] h = tt
words_by (w ∷ ws) h = (h 0, words_by ws (λ i. h (suc i)))

-- eight bytes are the digits of the word that they are
value_8 : (b : List ℕ) → length b ≡ 8 → from_le_bytes w64 b ≡ value 256 b
value_8 [] e = absurd (omega (arith, e))
value_8 (a0 ∷ []) e = absurd (omega (arith, e))
value_8 (a0 ∷ a1 ∷ []) e = absurd (omega (arith, e))
value_8 (a0 ∷ a1 ∷ a2 ∷ []) e = absurd (omega (arith, e))
value_8 (a0 ∷ a1 ∷ a2 ∷ a3 ∷ []) e = absurd (omega (arith, e))
value_8 (a0 ∷ a1 ∷ a2 ∷ a3 ∷ a4 ∷ []) e = absurd (omega (arith, e))
value_8 (a0 ∷ a1 ∷ a2 ∷ a3 ∷ a4 ∷ a5 ∷ []) e = absurd (omega (arith, e))
value_8 (a0 ∷ a1 ∷ a2 ∷ a3 ∷ a4 ∷ a5 ∷ a6 ∷ []) e = absurd (omega (arith, e))
value_8 (a0 ∷ a1 ∷ a2 ∷ a3 ∷ a4 ∷ a5 ∷ a6 ∷ a7 ∷ []) e = omega arith
value_8 (a0 ∷ a1 ∷ a2 ∷ a3 ∷ a4 ∷ a5 ∷ a6 ∷ a7 ∷ a8 ∷ b) e = absurd (omega (arith, e))

pub value_chunks : (n : ℕ) (b : List ℕ) → 8 * n ≤ length b → map (from_le_bytes w64) (first_chunks 8 n b) ≡ map (value 256) (first_chunks 8 n b)
value_chunks zero b h = refl
value_chunks (suc n) b h =
    let first = value_8 (take 8 b) (length-take-le 8 b (omega (arith, h))) in
    let others = value_chunks n (drop 8 b) (omega (arith, h, length-drop 8 b)) in
    ap (λ (w : ℕ). w ∷ map (from_le_bytes w64) (first_chunks 8 n (drop 8 b))) first ∙ ap (λ (ws : List ℕ). value 256 (take 8 b) ∷ ws) others

-- a word that was put over another, as its bytes
module _ (b ys : List ℕ) (m : ℕ) where
  eight_more : (take (8 + m) b ++ ys) ++ drop (8 + m + 8) b ≡ take 8 b ++ ((take m (drop 8 b) ++ ys) ++ drop (m + 8) (drop 8 b))
  eight_more =
      let sum : 8 + m + 8 ≡ 8 + (m + 8) = omega arith in
      let back : drop (8 + m + 8) b ≡ drop (m + 8) (drop 8 b) = ap (λ (n : ℕ). drop n b) sum ∙ sym (drop-drop (m + 8) 8 b) in
      let front : take (8 + m) b ≡ take 8 b ++ take m (drop 8 b) = take-add 8 m b in
      ap (λ (x : List ℕ). (x ++ ys) ++ drop (8 + m + 8) b) front ∙ ap (λ (x : List ℕ). ((take 8 b ++ take m (drop 8 b)) ++ ys) ++ x) back
      ∙ append_assoc (take 8 b ++ take m (drop 8 b)) ys (drop (m + 8) (drop 8 b)) ∙ append_assoc (take 8 b) (take m (drop 8 b)) (ys ++ drop (m + 8) (drop 8 b))
      ∙ ap (λ (x : List ℕ). take 8 b ++ x) (sym (append_assoc (take m (drop 8 b)) ys (drop (m + 8) (drop 8 b))))

bytes_set : (ws : List ℕ) (at w : ℕ) → at < length ws → (take (8 * at) (bytes_of ws) ++ to_le_bytes w64 w) ++ drop (8 * at + 8) (bytes_of ws) ≡ bytes_of (set ws at w)
bytes_set [] at w h = absurd (omega (arith, h))
bytes_set (v ∷ ws) zero w h = refl
bytes_set (v ∷ ws) (suc at) w h =
    let next : 8 * suc at ≡ 8 + 8 * at = omega arith in
    ap (λ (m : ℕ). (take m (bytes_of (v ∷ ws)) ++ to_le_bytes w64 w) ++ drop (m + 8) (bytes_of (v ∷ ws))) next
    ∙ eight_more (bytes_of (v ∷ ws)) (to_le_bytes w64 w) (8 * at) ∙ ap (λ (x : List ℕ). to_le_bytes w64 v ++ x) (bytes_set ws at w (omega (arith, h)))

words_set : (ws : List ℕ) (at w : ℕ) → AreWords ws → w < 2 ^ 64 → AreWords (set ws at w)
words_set [] at w h k = tt
words_set (v ∷ ws) zero w h k = (k, h.1)
words_set (v ∷ ws) (suc at) w h k = (h.0, words_set ws at w h.1 k)

pub put_over : (b new : List ℕ) (at w : ℕ) → IsBlock b → at < length (words_of_block b) → w < 2 ^ 64 → new ≡ (take (8 + 8 * at) b ++ to_le_bytes w64 w) ++ drop (8 + 8 * at + 8) b
    → (words_of_block new ≡ set (words_of_block b) at w) × IsBlock new
put_over b new at w h lt k e =
    let ws = words_of_block b in
    holds new (set ws at w)
    (e ∙ ap (λ (x : List ℕ). (take (8 + 8 * at) x ++ to_le_bytes w64 w) ++ drop (8 + 8 * at + 8) x) h.is ∙ eight_more (block_of ws) (to_le_bytes w64 w) (8 * at)
    ∙ ap (λ (x : List ℕ). replicate 8 0 ++ x) (bytes_set ws at w lt))
    (words_set ws at w h.words k)

-- what a vector holds after its items were lent
pub refilled : (n : ℕ) (xs ws : List ℕ) → n ≡ length xs → length ws ≡ length xs → take n (ws ++ drop (length ws) xs) ≡ ws
refilled n xs ws e long =
    let none : drop (length ws) xs ≡ [] = nil_from_length (drop (length ws) xs) (omega (arith, length-drop (length ws) xs, long)) in
    ap (λ (x : List ℕ). take n (ws ++ x)) none ∙ ap (λ (x : List ℕ). take n x) (append-nil ws) ∙ take_all n ws (omega (arith, long, e))
