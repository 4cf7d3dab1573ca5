-- What packed bytes have brought is what groups give.
use Rattle.std.proofs.Common.{◌≡◌, ◌==◌, true, false, ℕ, suc, ◌+◌, ◌*◌, ◌^◌, ◌<◌, List, [], ◌∷◌, ◌++◌, length, Option, Some, None, refl, sym, ◌∙◌, ap, append_assoc, length-append, arith}
use Rattle.std.specs.Int.{from_le_bytes, w64}
use lib.Count.{ones, ones_in}
use Rattle.std.proofs.lemmas.Nat.{ones_cat}
use Rattle.std.proofs.lemmas.List.{append-nil}
use Rattle.std.proofs.lemmas.Bool.Decides.{nat_tests}
use Rattle.cp_packed.specs.Packed.{tag, written}
use Rattle.cp_packed.specs.Unpacking.{Pending, header_of, run_of, first_words, next, brought, after, given}

-- tests of numbers
pub is_by : (m n : ℕ) → (m == n) ≡ true → m ≡ n
is_by m n h = grind (arith, nat_tests)

isnt_by : (m n : ℕ) → (m == n) ≡ false → m ≡ n → ⊥
isnt_by m n h = grind (arith, nat_tests)

pub test_true : (m n : ℕ) → m ≡ n → (m == n) ≡ true
test_true m n h = grind (arith, nat_tests)

pub test_false : (m n : ℕ) → (m ≡ n → ⊥) → (m == n) ≡ false
test_false m n h = grind (arith, nat_tests)

-- one digit of a tag
ones_none : ones 0 ≡ 0
unfolding ones ones_in
ones_none = refl

ones_one : ones 1 ≡ 1
unfolding ones ones_in
ones_one = refl

pub ones_even : (n : ℕ) → ones (2 * n) ≡ ones n
ones_even n = let e : 2 * n ≡ n * 2 ^ 1 + 0 = omega arith in ap (λ (m : ℕ). ones m) e ∙ omega (arith, ones_cat 1 n 0 (omega arith), ones_none)

pub ones_odd : (n : ℕ) → ones (1 + 2 * n) ≡ suc (ones n)
ones_odd n = let e : 1 + 2 * n ≡ n * 2 ^ 1 + 1 = omega arith in ap (λ (m : ℕ). ones m) e ∙ omega (arith, ones_cat 1 n 1 (omega arith), ones_one)

-- a tag has a digit for each byte that is written
pub ones_tag : (bs : List (Option ℕ)) → ones (tag bs) ≡ length (written bs)
ones_tag [] = ones_none
ones_tag (None ∷ bs) = ones_even (tag bs) ∙ ones_tag bs
ones_tag (Some b ∷ bs) = ones_odd (tag bs) ∙ ap suc (ones_tag bs)

pub header_some : (t : ℕ) → 0 < t → t < 255 → header_of t ≡ suc (ones t)
header_some t h k = rw (test_false t 0 (λ e. omega (arith, e, h)), test_false t 255 (λ e. omega (arith, e, k))) refl

-- the steps of a group
module _ (t x : ℕ) (p : List ℕ) where
  pub step_more : suc (length (p ++ x ∷ [])) < header_of t → next (record { run = 0; part = t ∷ p }) x ≡ record { run = 0; part = t ∷ (p ++ x ∷ []) }
  step_more h = rw (test_false (suc (length (p ++ x ∷ []))) (header_of t) (λ e. omega (arith, e, h))) refl

  pub brings_none : suc (length (p ++ x ∷ [])) < header_of t → brought (record { run = 0; part = t ∷ p }) x ≡ []
  brings_none h = rw (test_false (suc (length (p ++ x ∷ []))) (header_of t) (λ e. omega (arith, e, h))) refl

  pub step_last : suc (length (p ++ x ∷ [])) ≡ header_of t → next (record { run = 0; part = t ∷ p }) x ≡ record { run = run_of t (p ++ x ∷ []); part = [] }
  step_last h = rw (test_true (suc (length (p ++ x ∷ []))) (header_of t) h) refl

  pub brings_first : suc (length (p ++ x ∷ [])) ≡ header_of t → brought (record { run = 0; part = t ∷ p }) x ≡ first_words t (p ++ x ∷ [])
  brings_first h = rw (test_true (suc (length (p ++ x ∷ []))) (header_of t) h) refl

-- the steps of a raw run
module _ (n x : ℕ) (p : List ℕ) where
  pub raw_more : length (p ++ x ∷ []) < 8 → next (record { run = suc n; part = p }) x ≡ record { run = suc n; part = p ++ x ∷ [] }
  raw_more h = rw (test_false (length (p ++ x ∷ [])) 8 (λ e. omega (arith, e, h))) refl

  pub raw_none : length (p ++ x ∷ []) < 8 → brought (record { run = suc n; part = p }) x ≡ []
  raw_none h = rw (test_false (length (p ++ x ∷ [])) 8 (λ e. omega (arith, e, h))) refl

  pub raw_last : length (p ++ x ∷ []) ≡ 8 → next (record { run = suc n; part = p }) x ≡ record { run = n; part = [] }
  raw_last h = rw (test_true (length (p ++ x ∷ [])) 8 h) refl

  pub raw_word : length (p ++ x ∷ []) ≡ 8 → brought (record { run = suc n; part = p }) x ≡ from_le_bytes w64 (p ++ x ∷ []) ∷ []
  raw_word h = rw (test_true (length (p ++ x ∷ [])) 8 h) refl

-- bytes one after another
pub after-append : (p : Pending) (a b : List ℕ) → after p (a ++ b) ≡ after (after p a) b
after-append p [] b = refl
after-append p (x ∷ a) b = after-append (next p x) a b

pub given-append : (p : Pending) (a b : List ℕ) → given p (a ++ b) ≡ given p a ++ given (after p a) b
given-append p [] b = refl
given-append p (x ∷ a) b = ap (λ (ws : List ℕ). brought p x ++ ws) (given-append (next p x) a b) ∙ sym (append_assoc (brought p x) (given (next p x) a) (given (after (next p x) a) b))

-- What bytes do: what they bring, and what they leave open.
pub record Brings (p : Pending) (b ws : List ℕ) (q : Pending) : Type 0 where
  pub words : given p b ≡ ws
  pub open_then : after p b ≡ q

pub brings_both : (p q r : Pending) (a b ws vs : List ℕ) → Brings p a ws q → Brings q b vs r → Brings p (a ++ b) (ws ++ vs) r
brings_both p q r a b ws vs h k = record {
  words = given-append p a b ∙ ap (λ (us : List ℕ). us ++ given (after p a) b) h.words ∙ ap (λ (s : Pending). ws ++ given s b) h.open_then ∙ ap (λ (us : List ℕ). ws ++ us) k.words;
  open_then = after-append p a b ∙ ap (λ (s : Pending). after s b) h.open_then ∙ k.open_then;
}

-- the bytes after a tag, up to the last but one
pub feeds_part : (t : ℕ) (p q : List ℕ) → suc (length p + length q) < header_of t → Brings (record { run = 0; part = t ∷ p }) q [] (record { run = 0; part = t ∷ (p ++ q) })
feeds_part t p [] h = record { words = refl; open_then = ap (λ (r : List ℕ). let s : Pending = record { run = 0; part = t ∷ r } in s) (sym (append-nil p)) }
feeds_part t p (x ∷ q) h =
    let short : suc (length (p ++ x ∷ [])) < header_of t = omega (arith, h, length-append p (x ∷ [])) in
    let later = feeds_part t (p ++ x ∷ []) q (omega (arith, h, length-append p (x ∷ []))) in
    record {
      words = ap (λ (ws : List ℕ). ws ++ given (next (record { run = 0; part = t ∷ p }) x) q) (brings_none t x p short) ∙ ap (λ (s : Pending). given s q) (step_more t x p short) ∙ later.words;
      open_then = ap (λ (s : Pending). after s q) (step_more t x p short) ∙ later.open_then ∙ ap (λ (r : List ℕ). let s : Pending = record { run = 0; part = t ∷ r } in s) (append_assoc p (x ∷ []) q);
    }

-- and all of them
pub feeds_header : (t : ℕ) (p : List ℕ) (x : ℕ) → suc (length (p ++ x ∷ [])) ≡ header_of t → Brings (record { run = 0; part = t ∷ [] }) (p ++ x ∷ []) (first_words t (p ++ x ∷ [])) (record { run = run_of t (p ++ x ∷ []); part = [] })
feeds_header t p x h =
    let front = feeds_part t [] p (omega (arith, h, length-append p (x ∷ []))) in
    let last : Brings (record { run = 0; part = t ∷ p }) (x ∷ []) (first_words t (p ++ x ∷ [])) (record { run = run_of t (p ++ x ∷ []); part = [] }) =
    record { words = append-nil (brought (record { run = 0; part = t ∷ p }) x) ∙ brings_first t x p h; open_then = step_last t x p h } in
    brings_both (record { run = 0; part = t ∷ [] }) (record { run = 0; part = t ∷ p }) (record { run = run_of t (p ++ x ∷ []); part = [] }) p (x ∷ []) [] (first_words t (p ++ x ∷ [])) front last

-- a list that isn't empty ends
pub ends : (x : ℕ) (b : List ℕ) → (p : List ℕ) × (y : ℕ) × (x ∷ b ≡ p ++ y ∷ [])
ends x [] = ([], x, refl)
ends x (z ∷ b) = let h = ends z b in (x ∷ h.0, h.1, ap (λ (r : List ℕ). x ∷ r) h.2)

-- bytes of a word of a raw run that isn't whole with them
pub feeds_run : (n : ℕ) (p q : List ℕ) → length p + length q < 8 → Brings (record { run = suc n; part = p }) q [] (record { run = suc n; part = p ++ q })
feeds_run n p [] h = record { words = refl; open_then = ap (λ (r : List ℕ). let s : Pending = record { run = suc n; part = r } in s) (sym (append-nil p)) }
feeds_run n p (x ∷ q) h =
    let short : length (p ++ x ∷ []) < 8 = omega (arith, h, length-append p (x ∷ [])) in
    let later = feeds_run n (p ++ x ∷ []) q (omega (arith, h, length-append p (x ∷ []))) in
    record {
      words = ap (λ (ws : List ℕ). ws ++ given (next (record { run = suc n; part = p }) x) q) (raw_none n x p short) ∙ ap (λ (s : Pending). given s q) (raw_more n x p short) ∙ later.words;
      open_then = ap (λ (s : Pending). after s q) (raw_more n x p short) ∙ later.open_then ∙ ap (λ (r : List ℕ). let s : Pending = record { run = suc n; part = r } in s) (append_assoc p (x ∷ []) q);
    }
