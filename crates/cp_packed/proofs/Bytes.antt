-- Words and the bytes that they are.
use Rattle.std.proofs.Common.{◌≡◌, ℕ, zero, suc, ◌+◌, ◌-◌, ◌*◌, ◌/◌, ◌^◌, ◌<◌, ◌≤◌, List, [], ◌∷◌, ◌++◌, length, map, take, drop, replicate, get_or, refl, sym, ◌∙◌, ap, subst, length-drop, arith}
use Rattle.std.specs.List.{AllByRecursion}
use Rattle.std.specs.Int.{from_le_bytes, w64}
use Rattle.std.specs.Simd.{first_chunks}
use Rattle.std.proofs.lemmas.List.{take_all, length-take-le, get_or-drop}
use Rattle.std.proofs.Math.Seq.{take-add}
use Rattle.std.proofs.lemmas.Nat.{le_bytes_8}
use Rattle.cp_packed.specs.Words.{AreBytes, AreWords, bytes_of, words_in}

pub all-push : {X : Type 0} (P : X → Type 0) (xs : List X) (x : X) → AllByRecursion P xs → P x → AllByRecursion P (xs ++ x ∷ [])
all-push P [] x h k = (k, tt)
all-push P (y ∷ xs) x h k = (h.0, all-push P xs x h.1 k)

pub all-append : {X : Type 0} (P : X → Type 0) (xs ys : List X) → AllByRecursion P xs → AllByRecursion P ys → AllByRecursion P (xs ++ ys)
all-append P [] ys h k = k
all-append P (y ∷ xs) ys h k = (h.0, all-append P xs ys h.1 k)

pub all-take : {X : Type 0} (P : X → Type 0) (n : ℕ) (xs : List X) → AllByRecursion P xs → AllByRecursion P (take n xs)
all-take P zero xs h = tt
all-take P (suc n) [] h = tt
all-take P (suc n) (x ∷ xs) h = (h.0, all-take P n xs h.1)

pub take_small : (n : ℕ) (b : List ℕ) → ((i : ℕ) → get_or b i 0 < 256) → (i : ℕ) → get_or (take n b) i 0 < 256
take_small zero b k i = omega arith
take_small (suc n) [] k i = omega arith
take_small (suc n) (x ∷ b) k zero = k 0
take_small (suc n) (x ∷ b) k (suc i) = take_small n b (λ j. k (suc j)) i

pub word_small : (b : List ℕ) → ((i : ℕ) → get_or b i 0 < 256) → from_le_bytes w64 b < 2 ^ 64
word_small b k = omega (arith, k 0, k 1, k 2, k 3, k 4, k 5, k 6, k 7)

-- the words that bytes are have these bytes
pub words_first : (n : ℕ) (b : List ℕ) → 8 * n ≤ length b → ((i : ℕ) → get_or b i 0 < 256)
    → (length (map (from_le_bytes w64) (first_chunks 8 n b)) ≡ n) × AreWords (map (from_le_bytes w64) (first_chunks 8 n b))
    × (bytes_of (map (from_le_bytes w64) (first_chunks 8 n b)) ≡ take (8 * n) b)
words_first zero b h k = (refl, tt, refl)
words_first (suc n) b h k =
    let later = words_first n (drop 8 b) (omega (arith, h, length-drop 8 b)) (λ i. subst (λ m. m < 256) (sym (get_or-drop 8 b i 0)) (k (8 + i))) in
    let front = take 8 b in
    let word = le_bytes_8 front (from_le_bytes w64 front) (length-take-le 8 b (omega (arith, h))) (take_small 8 b k) refl in
    let whole : 8 * suc n ≡ 8 + 8 * n = omega arith in (
      omega (arith, later.0),
      (word_small front (take_small 8 b k), later.1),
      ap (λ x. x ++ bytes_of (map (from_le_bytes w64) (first_chunks 8 n (drop 8 b)))) word ∙ ap (λ x. front ++ x) later.2 ∙ sym (take-add 8 (8 * n) b) ∙ ap (λ m. take m b) (sym whole),
    )

pub words_in_is : (n : ℕ) (b : List ℕ) → length b ≡ 8 * n → ((i : ℕ) → get_or b i 0 < 256) → (length (words_in b) ≡ n) × AreWords (words_in b) × (bytes_of (words_in b) ≡ b)
words_in_is n b h k =
    let count : length b / 8 ≡ n = omega (arith, h) in
    let first = words_first n b (omega (arith, h)) k in
    rw count (first.0, first.1, first.2 ∙ take_all (8 * n) b (omega (arith, h)))

-- bytes by their places
pub bytes_by : (b : List ℕ) → ((i : ℕ) → get_or b i 0 < 256) → AreBytes b
bytes_by [] h = tt
bytes_by (x ∷ b) h = (h 0, bytes_by b (λ i. h (suc i)))

pub words_repeat : (n word : ℕ) → word < 2 ^ 64 → AreWords (replicate n word)
words_repeat zero word h = tt
words_repeat (suc n) word h = (h, words_repeat n word h)

pub filled_up : (xs : List ℕ) (n count w : ℕ) → n ≡ length xs + count → take n xs ++ replicate (n - length xs) w ≡ xs ++ replicate count w
filled_up xs n count w h =
    let more : n - length xs ≡ count = omega (arith, h) in
    ap (λ (c : List ℕ). c ++ replicate (n - length xs) w) (take_all n xs (omega (arith, h))) ∙ ap (λ (m : ℕ). xs ++ replicate m w) more
