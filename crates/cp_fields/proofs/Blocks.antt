-- Bytes that are tested block by block, with zeros after the last.
use Rattle.std.proofs.Common.{◌≡◌, ℕ, zero, suc, ◌+◌, ◌*◌, ◌/◌, ◌%◌, ◌<◌, ◌≤◌, nat_lt, true, false, List, ◌∷◌, ◌++◌, map, take, drop, get_or, IsUtf8, ◌↔◌, refl, sym, ap, ◌∙◌, subst, arith}
use Rattle.std.proofs.lemmas.Bool.Decides.{nat_tests}
use Rattle.std.proofs.lemmas.List.{get_or-drop, get_or-take, take-append-drop}
use Rattle.std.specs.Int.{div_ceil}
use Rattle.std.proofs.lemmas.List.FromFn.{take-map-range_with_len, length-map-range_with_len}
use Rattle.std.proofs.lemmas.Str.{IsUtf8-append, IsUtf8-take, IsUtf8-from_ascii}
use Rattle.std.specs.List.{range_with_len}
use Rattle.std.specs.Str.{IsAscii, IsCharBoundary}
use Rattle.cp_tree.specs.Elements.{numbers, element}
use Rattle.cp_fields.specs.Blocks.{byte_before}

shift : {X : Type 0} (f : ℕ → X) (a b n : ℕ) → map f (range_with_len (a + b) n) ≡ map (λ k. f (a + k)) (range_with_len b n)
shift f a b zero = refl
shift f a b (suc n) = let e : a + b + 1 ≡ a + (b + 1) = omega arith in ap (λ l. f (a + b) ∷ l) (rw e (shift f a (b + 1) n))

split : {X : Type 0} (f : ℕ → X) (a m n : ℕ) → map f (range_with_len a (m + n)) ≡ map f (range_with_len a m) ++ map f (range_with_len (a + m) n)
split f a zero n =
    let e : a + 0 ≡ a = omega arith in
    let e2 : 0 + n ≡ n = omega arith in
    rw (e, e2) refl
split f a (suc m) n =
    let e : suc m + n ≡ suc (m + n) = omega arith in
    let e2 : a + suc m ≡ a + 1 + m = omega arith in
    rw (e, e2) (ap (λ l. f a ∷ l) (split f (a + 1) m n))

-- the first n values of a function, and then more of them
pub range-append : {X : Type 0} (f : ℕ → X) (m n : ℕ) → map f (range_with_len 0 (m + n)) ≡ map f (range_with_len 0 m) ++ map (λ k. f (m + k)) (range_with_len 0 n)
range-append f m n =
    let e : 0 + m ≡ m + 0 = omega arith in
    split f 0 m n ∙ ap (λ l. map f (range_with_len 0 m) ++ l) (rw e (shift f m 0 n))

-- functions that agree below a bound have the same first values
same : {X : Type 0} (f g : ℕ → X) (a n : ℕ) → ((k : ℕ) → k < a + n → f k ≡ g k) → map f (range_with_len a n) ≡ map g (range_with_len a n)
same f g a zero h = refl
same f g a (suc n) h =
    rw (h a (omega arith)) (ap (λ l. g a ∷ l) (same f g (a + 1) n (λ k b. h k (omega arith))))

byte-within : (ws : List ℕ) (n k : ℕ) → k < n → byte_before ws n k ≡ element ws 8 k
byte-within ws n k h = let t : nat_lt k n ≡ true = grind (arith, nat_tests) in rw t refl

byte-past : (ws : List ℕ) (n k : ℕ) → n ≤ k → byte_before ws n k ≡ 0
byte-past ws n k h = let t : nat_lt k n ≡ false = grind (arith, nat_tests) in rw t refl

front : (ws : List ℕ) (n m : ℕ) → n ≤ m → take n (map (byte_before ws n) (range_with_len 0 m)) ≡ numbers ws 8 n
front ws n m h = take-map-range_with_len (byte_before ws n) 0 m n h ∙ same (byte_before ws n) (element ws 8) 0 n (λ k b. byte-within ws n k (omega arith))

zeros : (f : ℕ → ℕ) (a m i : ℕ) → f (a + i) ≡ 0 → get_or (map f (range_with_len a m)) i 0 ≡ 0
zeros f a zero i h = refl
zeros f a (suc m) zero h = let e : a + 0 ≡ a = omega arith in rw e at h
zeros f a (suc m) (suc i) h = let e : a + suc i ≡ a + 1 + i = omega arith in zeros f (a + 1) m i (rw e at h)

-- past the last byte there are zeros
past : (ws : List ℕ) (n m i : ℕ) → n ≤ i → get_or (map (byte_before ws n) (range_with_len 0 m)) i 0 ≡ 0
past ws n m i h = zeros (byte_before ws n) 0 m i (byte-past ws n (0 + i) (omega arith))

back : (ws : List ℕ) (n m : ℕ) → IsAscii (drop n (map (byte_before ws n) (range_with_len 0 m)))
back ws n m i = rw (get_or-drop n (map (byte_before ws n) (range_with_len 0 m)) i 0, past ws n m (n + i) (omega arith)) (omega arith)

boundary : (ws : List ℕ) (n m : ℕ) → n ≤ m → IsCharBoundary (map (byte_before ws n) (range_with_len 0 m)) n
boundary ws n m h = (rw (length-map-range_with_len (byte_before ws n) 0 m) h, λ within large. absurd (large_none (past ws n m n (omega arith)) large))
  where
    large_none : {x : ℕ} → x ≡ 0 → 128 ≤ x → ⊥
    large_none e l = omega (arith, e, l)

-- zeros after a text don't matter
pub padded : (ws : List ℕ) (n m : ℕ) → n ≤ m → IsUtf8 (map (byte_before ws n) (range_with_len 0 m)) ↔ IsUtf8 (numbers ws 8 n)
padded ws n m h =
    let all = map (byte_before ws n) (range_with_len 0 m) in
    let first = front ws n m h in (
      λ u. subst IsUtf8 first (IsUtf8-take all n u (boundary ws n m h)),
      λ u. subst IsUtf8 (take-append-drop n all) (IsUtf8-append (take n all) (drop n all) (subst IsUtf8 (sym first) u) (IsUtf8-from_ascii (drop n all) (back ws n m))),
    )

-- as many blocks as hold n bytes
pub blocks-hold : (n i : ℕ) → div_ceil n 64 ≤ i → n ≤ i * 64
blocks-hold n i h = omega (arith, h)

-- a byte of words from a whole word on
byte-from : (ws : List ℕ) (first k : ℕ) → first % 8 ≡ 0 → k < 64 → element (take 8 (drop (first / 8) ws)) 8 k ≡ element ws 8 (first + k)
byte-from ws first k even lt =
    let word : (first + k) * 8 / 64 ≡ first / 8 + k * 8 / 64 = omega (arith, even) in
    let rest : (first + k) * 8 % 64 ≡ k * 8 % 64 = omega (arith, even) in
    let near : k * 8 / 64 < 8 = omega (arith, lt) in
    rw (word, rest, get_or-take 8 (drop (first / 8) ws) (k * 8 / 64) 0 near, get_or-drop (first / 8) ws (k * 8 / 64) 0) refl

-- a block that is whole words
pub block-words : (ws : List ℕ) (first end : ℕ) → first % 8 ≡ 0 → first + 64 ≤ end → numbers (take 8 (drop (first / 8) ws)) 8 64 ≡ map (λ k. byte_before ws end (first + k)) (range_with_len 0 64)
block-words ws first end even within =
    same (element (take 8 (drop (first / 8) ws)) 8) (λ k. byte_before ws end (first + k)) 0 64
    (λ k lt. byte-from ws first k even (omega (arith, lt)) ∙ sym (byte-within ws end (first + k) (omega (arith, lt, within))))

-- one more whole block
pub block-more : (ws : List ℕ) (end m : ℕ) → m + 64 ≤ end → numbers ws 8 (m + 64) ≡ numbers ws 8 m ++ map (λ k. byte_before ws end (m + k)) (range_with_len 0 64)
block-more ws end m within =
    range-append (element ws 8) m 64
    ∙ ap (λ l. numbers ws 8 m ++ l) (same (λ k. element ws 8 (m + k)) (λ k. byte_before ws end (m + k)) 0 64 (λ k lt. sym (byte-within ws end (m + k) (omega (arith, lt, within)))))
