-- The bytes of a word that aren't zero, moved to the front by a table of places.
use Rattle.std.proofs.Common.{◌≡◌, ◌==◌, if◌then◌else◌, Bool, true, false, ◌&&◌, T, eqb, ltb, ℕ, zero, suc, ◌+◌, ◌*◌, ◌/◌, ◌%◌, ◌<◌, ◌≤◌, List, [], ◌∷◌, ◌++◌, length, take, get_or, map, replicate, refl, sym, ◌∙◌, ap, subst, arith, w8, eqb→eq, ltb→lt, length-append, append_assoc, eq-zero-or-pos, ◌-◌, inl, inr, Option, Some, None}
use Rattle.std.proofs.lemmas.List.{take_at, get_or_default}
use Rattle.std.proofs.lemmas.Simd.{swz_l, SwzOk, SwzOk-from_below, get_or-swz_l_below}
use lib.Lanes.{Each1}
use Rattle.cp_packed.specs.Packed.{tag, written}
use Rattle.cp_packed.specs.Packing.{bytes_that_count}
use Rattle.cp_packed.specs.declared.gather.TheConstants.{PLACES}
use Rattle.cp_packed.proofs.Opens.{test_true, test_false}

-- the places of a tag's bits, from this one on
places : ℕ → ℕ → ℕ → List ℕ
places zero i t = []
places (suc n) i t = if t % 2 == 0 then places n (suc i) (t / 2) else i ∷ places n (suc i) (t / 2)

even : (n i t k : ℕ) → t ≡ 2 * k → places (suc n) i t ≡ places n (suc i) k
unfolding places
even n i t k h =
    let half : t / 2 ≡ k = omega (arith, h) in
    rw (test_true (t % 2) 0 (omega (arith, h)), half) refl

odd : (n i t k : ℕ) → t ≡ 1 + 2 * k → places (suc n) i t ≡ i ∷ places n (suc i) k
unfolding places
odd n i t k h =
    let half : t / 2 ≡ k = omega (arith, h) in
    rw (test_false (t % 2) 0 (λ e. omega (arith, h, e)), half) refl

-- what stands at the places of the bytes that count
picks : (b s : List ℕ) (i : ℕ) → ((k : ℕ) → get_or b (i + k) 0 ≡ get_or s k 0) → map (λ j. get_or b j 0) (places (length s) i (tag (bytes_that_count s))) ≡ written (bytes_that_count s)
unfolding places
picks b [] i h = refl
picks b (x ∷ s) i h = go (eqb x 0) (ap (λ m. get_or b m 0) (omega arith) ∙ h 0) (picks b s (suc i) (λ k. ap (λ m. get_or b m 0) (omega arith) ∙ h (suc k)))
  where
    go : (t : Bool) → get_or b i 0 ≡ x → map (λ j. get_or b j 0) (places (length s) (suc i) (tag (bytes_that_count s))) ≡ written (bytes_that_count s)
        → map (λ j. get_or b j 0) (places (suc (length s)) i (tag ((if◌then◌else◌ {A = Option ℕ} t None (Some x)) ∷ bytes_that_count s))) ≡ written ((if◌then◌else◌ {A = Option ℕ} t None (Some x)) ∷ bytes_that_count s)
    go true first rest = ap (λ (js : List ℕ). map (λ j. get_or b j 0) js) (even (length s) i (2 * tag (bytes_that_count s)) (tag (bytes_that_count s)) refl) ∙ rest
    go false first rest =
        ap (λ (js : List ℕ). map (λ j. get_or b j 0) js) (odd (length s) i (1 + 2 * tag (bytes_that_count s)) (tag (bytes_that_count s)) refl)
        ∙ ap (λ (m : ℕ). m ∷ map (λ j. get_or b j 0) (places (length s) (suc i) (tag (bytes_that_count s)))) first ∙ ap (λ (js : List ℕ). x ∷ js) rest

-- a row begins with these places, and has eight that are below eight
unfoldable pub begins : List ℕ → List ℕ → Bool
begins [] row = true
begins (x ∷ xs) [] = false
begins (x ∷ xs) (y ∷ row) = eqb x y && begins xs row

abbrev small : List ℕ → Bool
small [] = true
small (j ∷ js) = ltb j 8 && small js

pub left_of : (a b : Bool) → T (a && b) → T a
left_of true b h = tt
left_of false b h = h

pub right_of : (a b : Bool) → T (a && b) → T b
right_of true b h = h
right_of false b h = absurd h

pub begun : (xs row : List ℕ) → T (begins xs row) → (rest : List ℕ) × (row ≡ xs ++ rest)
unfolding begins
begun [] row h = (row, refl)
begun (x ∷ xs) [] h = absurd h
begun (x ∷ xs) (y ∷ row) h =
    let more = begun xs row (right_of (eqb x y) (begins xs row) h) in
    let same : x ≡ y = eqb→eq x y (left_of (eqb x y) (begins xs row) h) in
    (more.0, ap (λ (m : ℕ). m ∷ row) (sym same) ∙ ap (λ (js : List ℕ). x ∷ js) more.1)

row_is : ℕ → Bool
row_is t = begins (places 8 0 t) (get_or PLACES t []) && (eqb (length (get_or PLACES t [])) 8 && small (get_or PLACES t []))

rows_below : ℕ → Bool
rows_below zero = true
rows_below (suc n) = row_is n && rows_below n

each_row : (n t : ℕ) → T (rows_below n) → t < n → T (row_is t)
unfolding row_is rows_below
each_row zero t h l = absurd (omega (arith, l))
each_row (suc n) t h l =
    elim (eq-zero-or-pos (n - t)) [
      | inl z ↦ let e : n ≡ t = omega (arith, z, l) in subst (λ (m : ℕ). T (row_is m)) e (left_of (row_is n) (rows_below n) h)
      | inr g ↦ each_row n t (right_of (row_is n) (rows_below n) h) (omega (arith, g))
    ]

all_rows : T (rows_below 256)
unfolding rows_below row_is begins places
all_rows = tt

small_row : (row : List ℕ) → T (small row) → Each1 (λ j. j < 16) (row ++ replicate 8 0)
small_row [] h = (omega arith, (omega arith, (omega arith, (omega arith, (omega arith, (omega arith, (omega arith, (omega arith, tt))))))))
small_row (j ∷ row) h =
    let low : j < 8 = ltb→lt j 8 (left_of (ltb j 8) (small row) h) in
    (omega (arith, low), small_row row (right_of (ltb j 8) (small row) h))

-- the lanes at these places
pub lanes_at : (xs js : List ℕ) (i : ℕ) → i + length js ≤ 16 → Each1 (λ j. j < 16) js → swz_l w8 16 xs i js ≡ map (λ j. get_or xs j 0) js
lanes_at xs [] i l h = refl
lanes_at xs (j ∷ js) i l h =
    let first : get_or (swz_l w8 16 xs i (j ∷ js)) 0 0 ≡ get_or xs j 0 = get_or-swz_l_below w8 16 xs i (j ∷ js) 0 (omega arith) h.0 ∙ ap (λ (m : ℕ). get_or xs m 0) (omega (arith, l)) in
    ap (λ (m : ℕ). m ∷ swz_l w8 16 xs (suc i) js) first ∙ ap (λ (ys : List ℕ). get_or xs j 0 ∷ ys) (lanes_at xs js (suc i) (omega (arith, l)) h.1)

beyond : (n k : ℕ) → ◌≡◌ {A = ℕ} (get_or (replicate n 0) k 0) 0
beyond zero k = refl
beyond (suc n) zero = refl
beyond (suc n) (suc k) = beyond n k

pub padded : (b : List ℕ) (n k : ℕ) → get_or (b ++ replicate n 0) k 0 ≡ get_or b k 0
padded [] n k = beyond n k
padded (x ∷ b) n zero = refl
padded (x ∷ b) n (suc k) = padded b n k

pub length_map : (f : ℕ → ℕ) (js : List ℕ) → length (map f js) ≡ length js
length_map f [] = refl
length_map f (j ∷ js) = ap (λ (m : ℕ). suc m) (length_map f js)

pub map_both : (f : ℕ → ℕ) (a b : List ℕ) → map f (a ++ b) ≡ map f a ++ map f b
map_both f [] b = refl
map_both f (j ∷ a) b = ap (λ (ys : List ℕ). f j ∷ ys) (map_both f a b)

-- a row by its index, whatever stands for one past the end
row_at : (t : ℕ) (none row : List ℕ) → t < 256 → row ≡ get_or PLACES t none → row ≡ get_or PLACES t []
row_at t none row l e = e ∙ get_or_default PLACES t none [] l

row_begins : (t : ℕ) → t < 256 → T (begins (places 8 0 t) (get_or PLACES t []))
unfolding row_is
row_begins t l = left_of (begins (places 8 0 t) (get_or PLACES t [])) (eqb (length (get_or PLACES t [])) 8 && small (get_or PLACES t [])) (each_row 256 t all_rows l)

row_holds : (t : ℕ) → t < 256 → T (eqb (length (get_or PLACES t [])) 8 && small (get_or PLACES t []))
unfolding row_is
row_holds t l = right_of (begins (places 8 0 t) (get_or PLACES t [])) (eqb (length (get_or PLACES t [])) 8 && small (get_or PLACES t [])) (each_row 256 t all_rows l)

row_ok : (t : ℕ) (row : List ℕ) → t < 256 → row ≡ get_or PLACES t [] → (length row ≡ 8) × T (small row)
row_ok t row l e =
    let r = get_or PLACES t [] in
    let h = row_holds t l in
    subst (λ (js : List ℕ). (length js ≡ 8) × T (small js)) (sym e) (eqb→eq (length r) 8 (left_of (eqb (length r) 8) (small r) h), right_of (eqb (length r) 8) (small r) h)

pub lanes_ok : (t : ℕ) (none js : List ℕ) → t < 256 → js ≡ get_or PLACES t none ++ replicate 8 0 → SwzOk w8 16 16 0 js
lanes_ok t none js l e =
    let row = get_or PLACES t none in
    let ok = row_ok t row l (row_at t none row l refl) in
    subst (λ (ks : List ℕ). SwzOk w8 16 16 0 ks) (sym e) (SwzOk-from_below w8 16 1 16 0 (row ++ replicate 8 0) refl (omega (arith, length-append row (replicate 8 0), ok.0)) (small_row row ok.1))

pub gathers : (b wide : List ℕ) (t : ℕ) (none js : List ℕ) → length b ≡ 8 → t < 256 → t ≡ tag (bytes_that_count b) → wide ≡ b ++ replicate 8 0 → js ≡ get_or PLACES t none ++ replicate 8 0
    → take (length (written (bytes_that_count b))) (swz_l w8 16 wide 0 js) ≡ written (bytes_that_count b)
gathers b wide t none js long l e w g =
    let row = get_or PLACES t none in
    let r = row_at t none row l refl in
    let ok = row_ok t row l r in
    let f : ℕ → ℕ = λ j. get_or wide j 0 in
    let front = places 8 0 t in
    let start = begun front (get_or PLACES t []) (row_begins t l) in
    let some = written (bytes_that_count b) in
    let same : front ≡ places (length b) 0 (tag (bytes_that_count b)) = ap (λ (m : ℕ). places m 0 t) (sym long) ∙ ap (λ (m : ℕ). places (length b) 0 m) e in
    let stands : (k : ℕ) → get_or wide (0 + k) 0 ≡ get_or b k 0 = λ k. ap (λ (m : ℕ). get_or wide m 0) (omega arith) ∙ ap (λ (ys : List ℕ). get_or ys k 0) w ∙ padded b 8 k in
    let picked : map f front ≡ some = ap (λ (ks : List ℕ). map f ks) same ∙ picks wide b 0 stands in
    let lanes = lanes_at wide (row ++ replicate 8 0) 0 (omega (arith, length-append row (replicate 8 0), ok.0)) (small_row row ok.1) in
    let parts : row ++ replicate 8 0 ≡ front ++ (start.0 ++ replicate 8 0) = ap (λ (ks : List ℕ). ks ++ replicate 8 0) (r ∙ start.1) ∙ append_assoc front start.0 (replicate 8 0) in
    let whole : swz_l w8 16 wide 0 js ≡ some ++ map f (start.0 ++ replicate 8 0) =
    ap (λ (ks : List ℕ). swz_l w8 16 wide 0 ks) g ∙ lanes ∙ ap (λ (ks : List ℕ). map f ks) parts ∙ map_both f front (start.0 ++ replicate 8 0) ∙ ap (λ (ys : List ℕ). ys ++ map f (start.0 ++ replicate 8 0)) picked in
    ap (λ (ys : List ℕ). take (length some) ys) whole ∙ take_at some (map f (start.0 ++ replicate 8 0)) (length some) refl

kept_by : (base more : List ℕ) (n : ℕ) → take (length base + n) (base ++ more) ≡ base ++ take n more
kept_by [] more n = let none : 0 + n ≡ n = omega arith in ap (λ (m : ℕ). take m more) none
kept_by (x ∷ base) more n =
    let next : suc (length base) + n ≡ suc (length base + n) = omega arith in
    ap (λ (m : ℕ). take m (x ∷ (base ++ more))) next ∙ ap (λ (b : List ℕ). x ∷ b) (kept_by base more n)

-- bytes of which the first count, after others
pub counted : (base more some : List ℕ) (s n : ℕ) → s ≡ length base → n ≡ length some → take (length some) more ≡ some → take (s + n) (base ++ more) ≡ base ++ some
counted base more some s n b c h = ap (λ (m : ℕ). take (m + n) (base ++ more)) b ∙ ap (λ (m : ℕ). take (length base + m) (base ++ more)) c ∙ kept_by base more (length some) ∙ ap (λ (x : List ℕ). base ++ x) h
