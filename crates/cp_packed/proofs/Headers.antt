-- What a whole header gives.
use Rattle.std.proofs.Common.{◌≡◌, ℕ, zero, suc, ◌<◌, ◌≤◌, List, [], ◌∷◌, length, replicate, drop, get_or, refl, sym, ◌∙◌, ap, arith}
use Rattle.std.specs.Int.{from_le_bytes, w64}
use Rattle.std.proofs.lemmas.List.{take_all}
use Rattle.cp_packed.specs.Unpacking.{header_of, laid_by, given_by, laid_in, IsShort}
use Rattle.cp_packed.proofs.Opens.{test_true, test_false}
use Rattle.cp_packed.proofs.Unpacks.{laid_full}

-- no byte of a zero word is written
none_written : (p : List ℕ) → from_le_bytes w64 (laid_by 8 0 p) ≡ 0
unfolding laid_by
none_written p = refl

-- the words of a part that is a whole header
pub header_zeros : (part : List ℕ) (tag count word : ℕ) → tag ≡ get_or part 0 tag → length part ≡ header_of tag → tag ≡ 0 → count ≡ suc (get_or part 1 0)
    → word ≡ from_le_bytes w64 (laid_by 8 tag (drop 1 part)) → replicate count word ≡ given_by 0 part
header_zeros [] tag count word t l z k e = absurd (omega (arith, l, ap (λ (u : ℕ). header_of u) z))
header_zeros (x ∷ []) tag count word t l z k e = absurd (omega (arith, l, ap (λ (u : ℕ). header_of u) z))
header_zeros (x ∷ y ∷ p) tag count word t l z k e =
    let first : x ≡ 0 = sym t ∙ z in
    let whole : suc (length (y ∷ p)) ≡ header_of x = l ∙ ap (λ (u : ℕ). header_of u) t in
    let none : word ≡ 0 = e ∙ ap (λ (u : ℕ). from_le_bytes w64 (laid_by 8 u (y ∷ p))) z ∙ none_written (y ∷ p) in
    let same : replicate count word ≡ replicate (suc y) 0 = ap (λ (n : ℕ). replicate n word) k ∙ ap (λ (w : ℕ). replicate (suc y) w) none in
    same ∙ sym (given_zeros x y p whole first)
  where
    given_zeros : (x y : ℕ) (p : List ℕ) → suc (length (y ∷ p)) ≡ header_of x → x ≡ 0 → given_by 0 (x ∷ y ∷ p) ≡ replicate (suc y) 0
    given_zeros x y p h k = rw (test_true (suc (length (y ∷ p))) (header_of x) h, test_true x 0 k) refl

pub header_word : (part : List ℕ) (tag count word : ℕ) → 0 < length part → tag ≡ get_or part 0 tag → length part ≡ header_of tag → (tag ≡ 0 → ⊥) → count ≡ 1
    → word ≡ from_le_bytes w64 (laid_by 8 tag (drop 1 part)) → replicate count word ≡ given_by 0 part
header_word [] tag count word h t l z k e = absurd (omega (arith, h))
header_word (x ∷ p) tag count word h t l z k e =
    let whole : suc (length p) ≡ header_of x = l ∙ ap (λ (u : ℕ). header_of u) t in
    let same : replicate count word ≡ from_le_bytes w64 (laid_by 8 x p) ∷ [] = ap (λ (n : ℕ). replicate n word) k ∙ ap (λ (w : ℕ). let ws : List ℕ = w ∷ [] in ws) (e ∙ ap (λ (u : ℕ). from_le_bytes w64 (laid_by 8 u p)) t) in
    same ∙ sym (given_word x p whole (λ f. z (t ∙ f)))
  where
    given_word : (x : ℕ) (p : List ℕ) → suc (length p) ≡ header_of x → (x ≡ 0 → ⊥) → given_by 0 (x ∷ p) ≡ from_le_bytes w64 (laid_by 8 x p) ∷ []
    given_word x p h k = rw (test_true (suc (length p)) (header_of x) h, test_false x 0 k) refl

-- a whole word of a raw run
pub run_word : (run word : ℕ) (part : List ℕ) → 0 < run → length part ≡ 8 → word ≡ from_le_bytes w64 (laid_by 8 255 part) → ◌≡◌ {A = List ℕ} (word ∷ []) (given_by run part)
run_word zero word part h l e = absurd (omega (arith, h))
run_word (suc n) word part h l e =
    let same : word ≡ from_le_bytes w64 part = e ∙ ap (λ (b : List ℕ). from_le_bytes w64 b) (laid_full part ∙ take_all 8 part (omega (arith, l))) in
    ap (λ (w : ℕ). let ws : List ℕ = w ∷ [] in ws) same ∙ sym (given_run n part l)
  where
    given_run : (n : ℕ) (part : List ℕ) → length part ≡ 8 → given_by (suc n) part ≡ from_le_bytes w64 part ∷ []
    given_run n part h = rw (test_true (length part) 8 h) refl

-- what a part of a raw run lays
pub run_laid : (run : ℕ) (part : List ℕ) → 0 < run → length part ≤ 8 → laid_by 8 255 part ≡ laid_in run part
run_laid zero part h l = absurd (omega (arith, h))
run_laid (suc n) part h l = laid_full part ∙ take_all 8 part l

pub run_short : (run : ℕ) (part : List ℕ) → 0 < run → IsShort run part → length part ≤ 8
run_short zero part h s = absurd (omega (arith, h))
run_short (suc n) part h s = omega (arith, s)
