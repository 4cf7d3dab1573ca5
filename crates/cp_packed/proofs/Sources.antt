-- The bytes of a word that are written, moved to their places by a table of sources.
use Rattle.std.proofs.Common.{◌≡◌, ◌==◌, if◌then◌else◌, Bool, true, ◌&&◌, ◌⊎◌, T, eqb, ltb, ℕ, zero, suc, ◌+◌, ◌-◌, ◌/◌, ◌%◌, ◌<◌, ◌≤◌, List, [], ◌∷◌, ◌++◌, length, take, get_or, map, replicate, refl, sym, ◌∙◌, ap, subst, inl, inr, arith, w8, eqb→eq, ltb→lt, length-append, length-take, append_assoc, eq-zero-or-pos}
use Rattle.std.proofs.lemmas.List.{take_at, get_or_default, get_or-take, get_or_past}
use Rattle.std.proofs.lemmas.Simd.{swz_l, SwzOk, SwzOk-from_below}
use lib.Lanes.{Each1}
use Rattle.cp_packed.specs.Unpacking.{laid_by}
use Rattle.cp_packed.specs.declared.scatter.TheConstants.{SOURCES}
use Rattle.cp_packed.proofs.Opens.{test_true, test_false}
use Rattle.cp_packed.proofs.Unpacks.{laid_even, laid_odd}
use Rattle.cp_packed.proofs.Places.{left_of, right_of, begins, begun, lanes_at, padded, map_both, length_map}

-- which byte written each place has, from this one on; none is the ninth
sources : ℕ → ℕ → ℕ → List ℕ
sources zero i t = []
sources (suc n) i t = if t % 2 == 0 then 8 ∷ sources n i (t / 2) else i ∷ sources n (suc i) (t / 2)

even : (n i t : ℕ) → t % 2 ≡ 0 → sources (suc n) i t ≡ 8 ∷ sources n i (t / 2)
unfolding sources
even n i t h = rw (test_true (t % 2) 0 h) refl

odd : (n i t : ℕ) → t % 2 ≡ 1 → sources (suc n) i t ≡ i ∷ sources n (suc i) (t / 2)
unfolding sources
odd n i t h = rw (test_false (t % 2) 0 (λ e. omega (arith, e, h))) refl

parity : (t : ℕ) → (t % 2 ≡ 0) ⊎ (t % 2 ≡ 1)
parity t = elim (eq-zero-or-pos (t % 2)) [ inl z ↦ inl z | inr g ↦ inr (omega (arith, g)) ]

lands : (wide : List ℕ) → get_or wide 8 0 ≡ 0 → (n i t : ℕ) (p : List ℕ) → n ≤ length p → ((k : ℕ) → k < n → get_or wide (i + k) 0 ≡ get_or p k 0) → map (λ j. get_or wide j 0) (sources n i t) ≡ laid_by n t p
unfolding sources laid_by
lands wide none zero i t p l h = refl
lands wide none (suc n) i t [] l h = absurd (omega (arith, l))
lands wide none (suc n) i t (y ∷ p) l h =
    let f : ℕ → ℕ = λ j. get_or wide j 0 in
    let first : get_or wide i 0 ≡ y = let same : i ≡ i + 0 = omega arith in ap (λ (m : ℕ). get_or wide m 0) same ∙ h 0 (omega arith) in
    elim (parity t) [
      | inl e ↦
          let rest = lands wide none n i (t / 2) (y ∷ p) (omega (arith, l)) (λ k g. h k (omega (arith, g))) in
          ap (λ (js : List ℕ). map f js) (even n i t e) ∙ ap (λ (m : ℕ). m ∷ map f (sources n i (t / 2))) none ∙ ap (λ (ys : List ℕ). 0 ∷ ys) rest ∙ sym (laid_even n t (y ∷ p) e)
      | inr e ↦
          let rest = lands wide none n (suc i) (t / 2) p (omega (arith, l)) (λ k g. let next : suc i + k ≡ i + suc k = omega arith in ap (λ (m : ℕ). get_or wide m 0) next ∙ h (suc k) (omega (arith, g))) in
          ap (λ (js : List ℕ). map f js) (odd n i t e) ∙ ap (λ (m : ℕ). m ∷ map f (sources n (suc i) (t / 2))) first ∙ ap (λ (ys : List ℕ). y ∷ ys) rest ∙ sym (laid_odd n t (y ∷ p) e)
    ]

-- a row is these sources
abbrev small : List ℕ → Bool
small [] = true
small (j ∷ js) = ltb j 9 && small js

row_is : ℕ → Bool
row_is t = begins (sources 8 0 t) (get_or SOURCES t []) && (eqb (length (sources 8 0 t)) 8 && (eqb (length (get_or SOURCES t [])) 8 && small (get_or SOURCES t [])))

rows_below : ℕ → Bool
rows_below zero = true
rows_below (suc n) = row_is n && rows_below n

each_row : (n t : ℕ) → T (rows_below n) → t < n → T (row_is t)
unfolding row_is rows_below
each_row zero t h l = absurd (omega (arith, l))
each_row (suc n) t h l =
    elim (eq-zero-or-pos (n - t)) [
      | inl z ↦ let e : n ≡ t = omega (arith, z, l) in subst (λ (m : ℕ). T (row_is m)) e (left_of (row_is n) (rows_below n) h)
      | inr g ↦ each_row n t (right_of (row_is n) (rows_below n) h) (omega (arith, g))
    ]

all_rows : T (rows_below 256)
unfolding rows_below row_is begins sources
all_rows = tt

record IsRow (t : ℕ) (row : List ℕ) : Type 0 where
  pub rest : List ℕ
  pub is : row ≡ sources 8 0 t ++ rest
  pub eight : length (sources 8 0 t) ≡ 8
  pub long : length row ≡ 8
  pub low : T (small row)

row_holds : (t : ℕ) → t < 256 → IsRow t (get_or SOURCES t [])
unfolding row_is
row_holds t l =
    let r = get_or SOURCES t [] in
    let a = begins (sources 8 0 t) r in
    let b = eqb (length (sources 8 0 t)) 8 in
    let c = eqb (length r) 8 in
    let h = each_row 256 t all_rows l in
    let start = begun (sources 8 0 t) r (left_of a (b && (c && small r)) h) in
    let more = right_of a (b && (c && small r)) h in
    record {
      rest = start.0;
      is = start.1;
      eight = eqb→eq (length (sources 8 0 t)) 8 (left_of b (c && small r) more);
      long = eqb→eq (length r) 8 (left_of c (small r) (right_of b (c && small r) more));
      low = right_of c (small r) (right_of b (c && small r) more);
    }

row_at : (t : ℕ) (none : List ℕ) → t < 256 → IsRow t (get_or SOURCES t none)
row_at t none l = subst (λ (row : List ℕ). IsRow t row) (get_or_default SOURCES t [] none l) (row_holds t l)

small_row : (row : List ℕ) → T (small row) → Each1 (λ j. j < 16) (row ++ replicate 8 0)
small_row [] h = (omega arith, (omega arith, (omega arith, (omega arith, (omega arith, (omega arith, (omega arith, (omega arith, tt))))))))
small_row (j ∷ row) h =
    let low : j < 9 = ltb→lt j 9 (left_of (ltb j 9) (small row) h) in
    (omega (arith, low), small_row row (right_of (ltb j 9) (small row) h))

pub sources_ok : (t : ℕ) (none js : List ℕ) → t < 256 → js ≡ get_or SOURCES t none ++ replicate 8 0 → SwzOk w8 16 16 0 js
sources_ok t none js l e =
    let row = get_or SOURCES t none in
    let ok = row_at t none l in
    subst (λ (ks : List ℕ). SwzOk w8 16 16 0 ks) (sym e) (SwzOk-from_below w8 16 1 16 0 (row ++ replicate 8 0) refl (omega (arith, length-append row (replicate 8 0), ok.long)) (small_row row ok.low))

pub scatters : (p b wide : List ℕ) (t : ℕ) (none js : List ℕ) → 8 ≤ length p → t < 256 → b ≡ take 8 p → wide ≡ b ++ replicate 8 0 → js ≡ get_or SOURCES t none ++ replicate 8 0
    → take 8 (swz_l w8 16 wide 0 js) ≡ laid_by 8 t p
scatters p b wide t none js h l e w g =
    let row = get_or SOURCES t none in
    let ok = row_at t none l in
    let f : ℕ → ℕ = λ j. get_or wide j 0 in
    let front = sources 8 0 t in
    let long : length b ≡ 8 = ap (λ (c : List ℕ). length c) e ∙ omega (arith, length-take 8 p, h) in
    let past : get_or wide 8 0 ≡ 0 = ap (λ (c : List ℕ). get_or c 8 0) w ∙ padded b 8 8 ∙ get_or_past b 8 0 (omega (arith, long)) in
    let stands : (k : ℕ) → k < 8 → get_or wide (0 + k) 0 ≡ get_or p k 0 = λ k s.
    let same : 0 + k ≡ k = omega arith in
    ap (λ (m : ℕ). get_or wide m 0) same ∙ ap (λ (c : List ℕ). get_or c k 0) w ∙ padded b 8 k ∙ ap (λ (c : List ℕ). get_or c k 0) e ∙ get_or-take 8 p k 0 s in
    let landed = lands wide past 8 0 t p h stands in
    let lanes = lanes_at wide (row ++ replicate 8 0) 0 (omega (arith, length-append row (replicate 8 0), ok.long)) (small_row row ok.low) in
    let parts : row ++ replicate 8 0 ≡ front ++ (ok.rest ++ replicate 8 0) = ap (λ (ks : List ℕ). ks ++ replicate 8 0) ok.is ∙ append_assoc front ok.rest (replicate 8 0) in
    let whole : swz_l w8 16 wide 0 js ≡ map f front ++ map f (ok.rest ++ replicate 8 0) =
    ap (λ (ks : List ℕ). swz_l w8 16 wide 0 ks) g ∙ lanes ∙ ap (λ (ks : List ℕ). map f ks) parts ∙ map_both f front (ok.rest ++ replicate 8 0) in
    ap (λ (ys : List ℕ). take 8 ys) whole ∙ take_at (map f front) (map f (ok.rest ++ replicate 8 0)) 8 (length_map f front ∙ ok.eight) ∙ landed
