-- Words, their halves, and the numbers of 32 bits that bytes begin with.
use Rattle.std.proofs.Common.{◌≡◌, ℕ, ◌*◌, ◌/◌, ◌%◌, ◌^◌, ◌<◌, List, [], ◌∷◌, ◌++◌, length, refl, ◌∙◌, ap, append_assoc, arith}
use Rattle.std.specs.List.{AllByRecursion}
use Rattle.std.specs.Int.{to_le_bytes, from_le_bytes, w32, w64}
use Rattle.std.proofs.lemmas.Nat.{from_le_bytes-to_le_bytes_4}
use Rattle.cp_frame.specs.Framed.{spelled}
use Rattle.cp_packed.specs.Words.{AreWords, bytes_of}
use Rattle.cp_frame.specs.Stream.{numbers}
use Rattle.cp_frame.specs.Parts.{halves}

-- a number, then the rest of them
pub numbers_one : (n : ℕ) (x : List ℕ) → n < 2 ^ 32 → numbers (to_le_bytes w32 n ++ x) ≡ n ∷ numbers x
numbers_one n x h = ap (λ m. m ∷ numbers x) (from_le_bytes-to_le_bytes_4 n h)

pub numbers_spelled : (ns x : List ℕ) → AllByRecursion (λ n. n < 2 ^ 32) ns → numbers (spelled ns ++ x) ≡ ns ++ numbers x
numbers_spelled [] x h = refl
numbers_spelled (n ∷ ns) x h =
    ap numbers (append_assoc (to_le_bytes w32 n) (spelled ns) x) ∙ numbers_one n (spelled ns ++ x) h.0 ∙ ap (λ m. n ∷ m) (numbers_spelled ns x h.1)

-- a word is two numbers
pub bytes_of_word : (w : ℕ) → w < 2 ^ 64 → to_le_bytes w64 w ≡ to_le_bytes w32 (w % 2 ^ 32) ++ to_le_bytes w32 (w / 2 ^ 32)
bytes_of_word w h =
    let e0 : w % 256 ≡ w % 4294967296 % 256 = omega arith in
    let e1 : w / 256 % 256 ≡ w % 4294967296 / 256 % 256 = omega arith in
    let e2 : w / 65536 % 256 ≡ w % 4294967296 / 65536 % 256 = omega arith in
    let e3 : w / 16777216 % 256 ≡ w % 4294967296 / 16777216 % 256 = omega arith in
    let e5 : w / 1099511627776 % 256 ≡ w / 4294967296 / 256 % 256 = omega arith in
    let e6 : w / 281474976710656 % 256 ≡ w / 4294967296 / 65536 % 256 = omega arith in
    let e7 : w / 72057594037927936 % 256 ≡ w / 4294967296 / 16777216 % 256 = omega arith in
    cc

pub halves_small : (ws : List ℕ) → AreWords ws → AllByRecursion (λ n. n < 2 ^ 32) (halves ws)
halves_small [] h = h
halves_small (w ∷ ws) h = let low : w % 2 ^ 32 < 2 ^ 32 = omega arith in let high : w / 2 ^ 32 < 2 ^ 32 = omega (arith, h.0) in (low, (high, halves_small ws h.1))

pub spelled_halves : (ws : List ℕ) → AreWords ws → bytes_of ws ≡ spelled (halves ws)
spelled_halves [] h = refl
spelled_halves (w ∷ ws) h =
    ap (λ b. b ++ bytes_of ws) (bytes_of_word w h.0) ∙ append_assoc (to_le_bytes w32 (w % 2 ^ 32)) (to_le_bytes w32 (w / 2 ^ 32)) (bytes_of ws)
    ∙ ap (λ b. to_le_bytes w32 (w % 2 ^ 32) ++ (to_le_bytes w32 (w / 2 ^ 32) ++ b)) (spelled_halves ws h.1)

pub numbers_words : (ws x : List ℕ) → AreWords ws → numbers (bytes_of ws ++ x) ≡ halves ws ++ numbers x
numbers_words ws x h = ap (λ b. numbers (b ++ x)) (spelled_halves ws h) ∙ numbers_spelled (halves ws) x (halves_small ws h)

pub length_bytes_of : (ws : List ℕ) → length (bytes_of ws) ≡ 8 * length ws
length_bytes_of [] = refl
length_bytes_of (w ∷ ws) = omega (arith, length_bytes_of ws)

pub length_spelled : (ns : List ℕ) → length (spelled ns) ≡ 4 * length ns
length_spelled [] = refl
length_spelled (n ∷ ns) = omega (arith, length_spelled ns)

pub length_halves : (ws : List ℕ) → length (halves ws) ≡ 2 * length ws
length_halves [] = refl
length_halves (w ∷ ws) = omega (arith, length_halves ws)

-- more bytes, more numbers
pub numbers_more : (b x : List ℕ) → (ns : List ℕ) × (numbers (b ++ x) ≡ numbers b ++ ns)
numbers_more [] x = (numbers x, refl)
numbers_more (a ∷ []) x = (numbers (a ∷ x), refl)
numbers_more (a ∷ b ∷ []) x = (numbers (a ∷ b ∷ x), refl)
numbers_more (a ∷ b ∷ c ∷ []) x = (numbers (a ∷ b ∷ c ∷ x), refl)
numbers_more (a ∷ b ∷ c ∷ d ∷ more) x =
    let h = numbers_more more x in
    (h.0, ap (λ ns. from_le_bytes w32 (a ∷ b ∷ c ∷ d ∷ []) ∷ ns) h.1)
