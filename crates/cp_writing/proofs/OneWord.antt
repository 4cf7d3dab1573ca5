-- Words are determined by what they say, and by the elements that they hold.
use Rattle.std.proofs.Common.{◌≡◌, ℕ, zero, suc, ◌+◌, ◌-◌, ◌*◌, ◌/◌, ◌%◌, ◌^◌, ◌<◌, ◌≤◌, ◌==◌, ◌⊎◌, inl, inr, ⊎_elim, ℤ, pos, ◌-ℤ◌, Bool, true, false, cond, nat_lt, List, length, get_or, Option, Some, None, refl, sym, ap, subst, ◌∙◌, arith}
use Rattle.std.specs.Prelude.{slice_index}
use Rattle.std.specs.Int.{bit_at}
use Rattle.std.proofs.Math.Nat.{mul_assoc, add-mul, mul-le-mul_right, add-mul-div_right, add-mul-mod_self_right, div-div-eq-div-mul, div-one, mod-eq_of_lt}
use Rattle.std.proofs.lemmas.Bool.{cases_lt}
use Rattle.std.proofs.lemmas.Bool.Decides.{nat_tests}
use Rattle.std.proofs.lemmas.Int.{ints}
use Rattle.std.proofs.lemmas.List.FromFn.{get_or-map-range_with_len}
use Rattle.std.proofs.lemmas.Nat.{pow_pos, pow-add, div-add-mod', div-mul-add, mod-mul-add, mod_below}
use Rattle.std.proofs.lemmas.Nat.Bits.{same_from_bits_below}
use Rattle.cp_words.specs.Word.{pointer_of, tag_of, offset_of, high_of, size_of, size_code}
use Rattle.cp_words.specs.declared.pointer.Pointer.{Pointer}
use Rattle.cp_words.specs.declared.pointer.Pointer.TheVariants as pointers
use Rattle.cp_words.specs.declared.pointer.Tag.{Tag}
use Rattle.cp_tree.specs.Elements.{element, numbers, flags}
use Rattle.cp_tree.specs.Node.{Elements, voids, bits, bytes, halves, quads, words}
use Rattle.cp_tree.proofs.Numbers.{place}
use Rattle.cp_writing.specs.Layout.{HoldElements}

-- ---- pointers

-- what a word's parts are, by what it says
abbrev Parts : ℕ → Pointer → Type 0
Parts w pointers.Null = w ≡ 0
Parts w (pointers.Struct o d n) = (w % 4 ≡ 0) × (offset_of w ≡ o) × (high_of w % 2 ^ 16 ≡ d) × (high_of w / 2 ^ 16 ≡ n)
Parts w (pointers.List o size n) = (w % 4 ≡ 1) × (offset_of w ≡ o) × (size_of (high_of w % 8) ≡ size) × (high_of w / 8 ≡ n)
Parts w (pointers.Far double place s) = (w % 4 ≡ 2) × ((w / 4 % 2 == 1) ≡ double) × (w / 8 % 2 ^ 29 ≡ place) × (high_of w ≡ s)
Parts w (pointers.Cap i) = (w % 2 ^ 32 ≡ 3) × (high_of w ≡ i)

chosen : (b : Bool) (x : Pointer) (rest : Option Pointer) (r : Pointer) → cond b (Some x) rest ≡ Some r → ((b ≡ true) × (x ≡ r)) ⊎ ((b ≡ false) × (rest ≡ Some r))
chosen true x rest r e = inl (refl, cc)
chosen false x rest r e = inr (refl, e)

no_pointer : (r : Pointer) → ◌≡◌ {A = Option Pointer} None (Some r) → ⊥
no_pointer r e = cc

tested : (a b : ℕ) → (a == b) ≡ true → a ≡ b
tested a b h = grind (arith, nat_tests)

parts_of : (w : ℕ) (r : Pointer) → pointer_of w ≡ Some r → Parts w r
unfolding pointer_of
parts_of w r e =
    ⊎_elim (λ x. subst (Parts w) x.1 (tested w 0 x.0)) (λ x.
    ⊎_elim (λ x. subst (Parts w) x.1 (tested (w % 4) 0 x.0, refl, refl, refl)) (λ x.
    ⊎_elim (λ x. subst (Parts w) x.1 (tested (w % 4) 1 x.0, refl, refl, refl)) (λ x.
    ⊎_elim (λ x. subst (Parts w) x.1 (tested (w % 4) 2 x.0, refl, refl, refl)) (λ x.
    ⊎_elim (λ x. subst (Parts w) x.1 (tested (w % 2 ^ 32) 3 x.0, refl)) (λ x. absurd (no_pointer r x.1))
    (chosen (w % 2 ^ 32 == 3) _ _ r x.1)) (chosen (w % 4 == 2) _ _ r x.1)) (chosen (w % 4 == 1) _ _ r x.1)) (chosen (w % 4 == 0) _ _ r x.1)) (chosen (w == 0) _ _ r e)

-- a signed number of 30 bits
abbrev signed : ℕ → ℤ
signed f = cond (nat_lt f (2 ^ 29)) (pos f) (pos f -ℤ pos (2 ^ 30))

one_field : (a b : ℕ) → a < 2 ^ 30 → b < 2 ^ 30 → signed a ≡ signed b → a ≡ b
one_field a b s t e = go (nat_lt a (2 ^ 29)) (nat_lt b (2 ^ 29)) refl refl e
  where
    go : (p q : Bool) → nat_lt a (2 ^ 29) ≡ p → nat_lt b (2 ^ 29) ≡ q → cond p (pos a) (pos a -ℤ pos (2 ^ 30)) ≡ cond q (pos b) (pos b -ℤ pos (2 ^ 30)) → a ≡ b
    go true true h k f = omega (arith, ints, f)
    go true false h k f = omega (arith, ints, f)
    go false true h k f = omega (arith, ints, f)
    go false false h k f = omega (arith, ints, f)

code_back : (a : ℕ) → a < 8 → size_code (size_of a) ≡ a
code_back zero h = refl
code_back (suc zero) h = refl
code_back (suc (suc zero)) h = refl
code_back (suc (suc (suc zero))) h = refl
code_back (suc (suc (suc (suc zero)))) h = refl
code_back (suc (suc (suc (suc (suc zero))))) h = refl
code_back (suc (suc (suc (suc (suc (suc zero)))))) h = refl
code_back (suc (suc (suc (suc (suc (suc (suc zero))))))) h = refl
code_back (suc (suc (suc (suc (suc (suc (suc (suc a)))))))) h = absurd (omega (arith, h))

one_bit : (a b : ℕ) → a < 2 → b < 2 → (a == 1) ≡ (b == 1) → a ≡ b
one_bit zero zero s t e = refl
one_bit zero (suc zero) s t e = cc
one_bit (suc zero) zero s t e = cc
one_bit (suc zero) (suc zero) s t e = refl
one_bit a (suc (suc b)) s t e = absurd (omega (arith, t))
one_bit (suc (suc a)) b s t e = absurd (omega (arith, s))

-- two words that say the same are the same
pub one_word : (v w : ℕ) (r : Pointer) → v < 2 ^ 64 → w < 2 ^ 64 → pointer_of v ≡ Some r → pointer_of w ≡ Some r → v ≡ w
one_word v w r a b e f = same r (parts_of v r e) (parts_of w r f)
  where
    fields : offset_of v ≡ offset_of w → v / 4 % 2 ^ 30 ≡ w / 4 % 2 ^ 30
    fields h = one_field (v / 4 % 2 ^ 30) (w / 4 % 2 ^ 30) (omega arith) (omega arith) h

    same : (r : Pointer) → Parts v r → Parts w r → v ≡ w
    same pointers.Null h k = h ∙ sym k
    same (pointers.Struct o d n) h k = let field = fields (h.1 ∙ sym k.1) in omega (arith, a, b, field, h.0, k.0, h.2, k.2, h.3, k.3)
    same (pointers.List o size n) h k =
        let field = fields (h.1 ∙ sym k.1) in
        let code : v / 2 ^ 32 % 8 ≡ w / 2 ^ 32 % 8 = sym (code_back (v / 2 ^ 32 % 8) (omega arith)) ∙ ap size_code (h.2 ∙ sym k.2) ∙ code_back (w / 2 ^ 32 % 8) (omega arith) in
        omega (arith, a, b, field, code, h.0, k.0, h.3, k.3)
    same (pointers.Far double place s) h k =
        let bit : v / 4 % 2 ≡ w / 4 % 2 = one_bit (v / 4 % 2) (w / 4 % 2) (omega arith) (omega arith) (h.1 ∙ sym k.1) in
        omega (arith, a, b, bit, h.0, k.0, h.2, k.2, h.3, k.3)
    same (pointers.Cap i) h k = omega (arith, a, b, h.0, k.0, h.1, k.1)

-- two tags that say the same are the same
pub one_tag : (v w : ℕ) (g : Tag) → v < 2 ^ 64 → w < 2 ^ 64 → tag_of v ≡ Some g → tag_of w ≡ Some g → v ≡ w
unfolding tag_of
one_tag v w g a b e f =
    let h = says v e in
    let k = says w f in
    omega (arith, a, b, h.0, k.0, h.1, k.1, h.2, k.2, h.3, k.3)
  where
    says : (u : ℕ) → tag_of u ≡ Some g → (u % 4 ≡ 0) × (u / 4 % 2 ^ 30 ≡ g.count) × (u / 2 ^ 32 % 2 ^ 16 ≡ g.words) × (u / 2 ^ 32 / 2 ^ 16 ≡ g.ptrs)
    says u h = go (u % 4 == 0) refl h
      where
        go : (t : Bool) → (u % 4 == 0) ≡ t → cond t (Some (record { count = u / 4 % 2 ^ 30; words = u / 2 ^ 32 % 2 ^ 16; ptrs = u / 2 ^ 32 / 2 ^ 16 })) None ≡ Some g
            → (u % 4 ≡ 0) × (u / 4 % 2 ^ 30 ≡ g.count) × (u / 2 ^ 32 % 2 ^ 16 ≡ g.words) × (u / 2 ^ 32 / 2 ^ 16 ≡ g.ptrs)
        go true t h =
            let is : record { count = u / 4 % 2 ^ 30; words = u / 2 ^ 32 % 2 ^ 16; ptrs = u / 2 ^ 32 / 2 ^ 16 } ≡ g = cc in
            (tested (u % 4) 0 t, ap (λ (x : Tag). x.count) is, ap (λ (x : Tag). x.words) is, ap (λ (x : Tag). x.ptrs) is)
        go false t h = cc

-- ---- elements

-- the low bits of a number are its own
bit_at-mod : (x w b : ℕ) → b < w → bit_at (x % 2 ^ w) b ≡ bit_at x b
bit_at-mod x w b lt =
    let c = w - (b + 1) in
    let q = x / 2 ^ w in
    let r = x % 2 ^ w in
    let split : w ≡ c + 1 + b = omega (arith, lt) in
    let power : 2 ^ w ≡ 2 ^ c * 2 * 2 ^ b = ap (λ n. 2 ^ n) split ∙ pow-add 2 (c + 1) b ∙ ap (λ n. n * 2 ^ b) (pow-add 2 c 1) in
    let high : q * 2 ^ w ≡ q * 2 ^ c * 2 * 2 ^ b = ap (λ n. q * n) power ∙ sym (mul_assoc q (2 ^ c * 2) (2 ^ b)) ∙ ap (λ n. n * 2 ^ b) (sym (mul_assoc q (2 ^ c) 2)) in
    let whole : x ≡ r + q * 2 ^ c * 2 * 2 ^ b = omega (arith, div-add-mod' x (2 ^ w), high) in
    let shifted : x / 2 ^ b ≡ r / 2 ^ b + q * 2 ^ c * 2 = ap (λ n. n / 2 ^ b) whole ∙ add-mul-div_right r (q * 2 ^ c * 2) (pow_pos b) in
    sym (ap (λ n. n % 2) shifted ∙ add-mul-mod_self_right (r / 2 ^ b) (q * 2 ^ c) 2)

-- bit b of element k
element_bit : (w per : ℕ) (ws : List ℕ) (k b : ℕ) → per * w ≡ 64 → 0 < per → b < w → element ws 1 (k * w + b) ≡ bit_at (element ws w k) b
element_bit w per ws k b whole some lt =
    let at = place w per k whole some in
    let x = k % per * w in
    let next : k % per + 1 ≤ per = omega (arith, mod_below k per some) in
    let scaled : (k % per + 1) * w ≤ per * w = mul-le-mul_right w next in
    let inside : x + b < 64 = omega (arith, scaled, add-mul (k % per) 1 w, whole, lt) in
    let split : k * w ≡ k / per * 64 + x = omega (arith, div-add-mod' (k * w) 64, at.0, at.1) in
    let index : (k * w + b) * 1 ≡ k / per * 64 + (x + b) = omega (arith, split) in
    let word : (k * w + b) * 1 / 64 ≡ k / per = rw index (div-mul-add (k / per) 64 (x + b) inside) in
    let bit : (k * w + b) * 1 % 64 ≡ x + b = rw index (mod-mul-add (k / per) 64 (x + b) inside) in
    let n = slice_index ws (k / per) in
    let low = bit_at-mod (n / 2 ^ x) w b lt in
    rw (word, bit, at.0, at.1, pow-add 2 x b, ← div-div-eq-div-mul n (2 ^ x) (2 ^ b)) (sym low)

-- the bits of words of which each element is the same
same_bits : (w per n : ℕ) (ws vs : List ℕ) → per * w ≡ 64 → 0 < per → 0 < w → ((k : ℕ) → k < n → element ws w k ≡ element vs w k)
    → ((j : ℕ) → n * w ≤ j → element ws 1 j ≡ 0) → ((j : ℕ) → n * w ≤ j → element vs 1 j ≡ 0) → (j : ℕ) → element ws 1 j ≡ element vs 1 j
same_bits w per n ws vs whole some wide same zero_ws zero_vs j = ⊎_elim (λ lt. inside lt) (λ ge. zero_ws j ge ∙ sym (zero_vs j ge)) (cases_lt j (n * w))
  where
    split : j / w * w + j % w ≡ j
    split = div-add-mod' j w

    inside : j < n * w → element ws 1 j ≡ element vs 1 j
    inside lt =
        let below = mod_below j w wide in
        let k : j / w < n = ⊎_elim (λ less. less) (λ more. absurd (omega (arith, lt, split, mul-le-mul_right w more))) (cases_lt (j / w) n) in
        let first = element_bit w per ws (j / w) (j % w) whole some below in
        let second = element_bit w per vs (j / w) (j % w) whole some below in
        let middle : bit_at (element ws w (j / w)) (j % w) ≡ bit_at (element vs w (j / w)) (j % w) = ap (λ x. bit_at x (j % w)) (same (j / w) k) in
        subst (λ i. element ws 1 i ≡ element vs 1 i) split (first ∙ middle ∙ sym second)

-- numbers that are the same have the same elements
number_at : (ws vs : List ℕ) (w n : ℕ) → numbers ws w n ≡ numbers vs w n → (k : ℕ) → k < n → element ws w k ≡ element vs w k
number_at ws vs w n e k lt = sym (get_or-map-range_with_len (element ws w) 0 n k k 0 lt (omega arith)) ∙ ap (λ ns. get_or ns k 0) e ∙ get_or-map-range_with_len (element vs w) 0 n k k 0 lt (omega arith)

flag_at : (ws vs : List ℕ) (n : ℕ) → flags ws n ≡ flags vs n → (k : ℕ) → k < n → element ws 1 k ≡ element vs 1 k
flag_at ws vs n e k lt = one_bit (element ws 1 k) (element vs 1 k) (omega arith) (omega arith)
    (sym (get_or-map-range_with_len (λ i. element ws 1 i == 1) 0 n k k false lt (omega arith)) ∙ ap (λ bs. get_or bs k false) e ∙ get_or-map-range_with_len (λ i. element vs 1 i == 1) 0 n k k false lt (omega arith))

-- words that hold the same elements have the same bits
held_bits : (ws vs : List ℕ) (es : Elements) → HoldElements ws es → HoldElements vs es → (j : ℕ) → element ws 1 j ≡ element vs 1 j
held_bits ws vs (voids n) h k = λ j. h.padding j (omega arith) ∙ sym (k.padding j (omega arith))
held_bits ws vs (bits bs) h k =
    let e : bits (flags ws (length bs)) ≡ bits (flags vs (length bs)) = sym h.elements ∙ k.elements in
    same_bits 1 64 (length bs) ws vs refl (omega arith) (omega arith) (flag_at ws vs (length bs) cc) h.padding k.padding
held_bits ws vs (bytes ns) h k =
    let e : bytes (numbers ws 8 (length ns)) ≡ bytes (numbers vs 8 (length ns)) = sym h.elements ∙ k.elements in
    same_bits 8 8 (length ns) ws vs refl (omega arith) (omega arith) (number_at ws vs 8 (length ns) cc) h.padding k.padding
held_bits ws vs (halves ns) h k =
    let e : halves (numbers ws 16 (length ns)) ≡ halves (numbers vs 16 (length ns)) = sym h.elements ∙ k.elements in
    same_bits 16 4 (length ns) ws vs refl (omega arith) (omega arith) (number_at ws vs 16 (length ns) cc) h.padding k.padding
held_bits ws vs (quads ns) h k =
    let e : quads (numbers ws 32 (length ns)) ≡ quads (numbers vs 32 (length ns)) = sym h.elements ∙ k.elements in
    same_bits 32 2 (length ns) ws vs refl (omega arith) (omega arith) (number_at ws vs 32 (length ns) cc) h.padding k.padding
held_bits ws vs (words ns) h k =
    let e : words (numbers ws 64 (length ns)) ≡ words (numbers vs 64 (length ns)) = sym h.elements ∙ k.elements in
    same_bits 64 1 (length ns) ws vs refl (omega arith) (omega arith) (number_at ws vs 64 (length ns) cc) h.padding k.padding

-- a word of 64 bits is element of itself
word_element : (ws : List ℕ) (i : ℕ) → slice_index ws i < 2 ^ 64 → element ws 64 i ≡ slice_index ws i
word_element ws i small =
    let at = place 64 1 i refl (omega arith) in
    let word : i / 1 ≡ i = div-one i in
    let rest : i % 1 * 64 ≡ 0 = omega arith in
    rw (at.0, at.1, word, rest, div-one (slice_index ws i)) (mod-eq_of_lt small)

-- words that hold the same elements are the same
pub one_held : (ws vs : List ℕ) (es : Elements) (i : ℕ) → HoldElements ws es → HoldElements vs es → slice_index ws i < 2 ^ 64 → slice_index vs i < 2 ^ 64 → slice_index ws i ≡ slice_index vs i
one_held ws vs es i h k a b =
    let left = word_element ws i a in
    let right = word_element vs i b in
    let bit = λ (j : ℕ) (lt : j < 64). sym (element_bit 64 1 ws i j refl (omega arith) lt) ∙ held_bits ws vs es h k (i * 64 + j) ∙ element_bit 64 1 vs i j refl (omega arith) lt in
    sym left ∙ same_from_bits_below 64 (element ws 64 i) (element vs 64 i) (omega (arith, left, a)) (omega (arith, right, b)) bit ∙ right
