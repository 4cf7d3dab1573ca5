-- A stream begins with the frame of one list of segments at most.
use Rattle.std.proofs.Common.{◌≡◌, ℕ, ◌+◌, ◌-◌, ◌*◌, ◌/◌, ◌^◌, ◌<◌, List, [], ◌∷◌, ◌++◌, length, sum, refl, sym, ◌∙◌, ap, append_assoc, length-append, arith}
use Rattle.std.specs.List.{AllByRecursion, flat_map}
use Rattle.std.specs.Int.{to_le_bytes, from_le_bytes, w64}
use Rattle.std.proofs.lemmas.Nat.{from_le_bytes-to_le_bytes_8}
use Rattle.std.proofs.lemmas.List.Sums.{sum_by-cons}
use Rattle.cp_frame.specs.Framed.{sizes_of, table, Framed}
use Rattle.cp_packed.specs.Words.{AreWords, bytes_of}
use Rattle.cp_frame.specs.Stream.{numbers}
use Rattle.cp_frame.proofs.Numbers.{numbers_spelled, length_bytes_of, length_spelled}

-- equal lists, cut at equal lengths
pub same_parts : {A : Type 0} (a b x y : List A) → length a ≡ length b → a ++ x ≡ b ++ y → (a ≡ b) × (x ≡ y)
same_parts [] [] x y n e = (refl, e)
same_parts [] (q ∷ b) x y n e = (cc, cc)
same_parts (p ∷ a) [] x y n e = (cc, cc)
same_parts (p ∷ a) (q ∷ b) x y n e =
    let tails : a ++ x ≡ b ++ y = cc in
    let h = same_parts a b x y (omega (arith, n)) tails in (cc (h.0), h.1)

-- words are told by their bytes
pub same_words : (a b : List ℕ) → AreWords a → AreWords b → length a ≡ length b → bytes_of a ≡ bytes_of b → a ≡ b
same_words [] [] h k n e = refl
same_words [] (q ∷ b) h k n e = cc
same_words (p ∷ a) [] h k n e = cc
same_words (p ∷ a) (q ∷ b) h k n e =
    let parts = same_parts (to_le_bytes w64 p) (to_le_bytes w64 q) (bytes_of a) (bytes_of b) refl e in
    let first : p ≡ q = sym (from_le_bytes-to_le_bytes_8 p h.0) ∙ ap (from_le_bytes w64) parts.0 ∙ from_le_bytes-to_le_bytes_8 q k.0 in
    let others = same_words a b h.1 k.1 (omega (arith, n)) parts.1 in cc

pub length_bodies : (S : List (List ℕ)) → length (flat_map bytes_of S) ≡ 8 * sum (sizes_of S)
length_bodies [] = refl
length_bodies (s ∷ S) = omega (arith, length-append (bytes_of s) (flat_map bytes_of S), length_bytes_of s, length_bodies S, sum_by-cons (λ x. x) (length s) (sizes_of S))

-- segments are told by their bytes and their sizes
pub same_bodies : (S T : List (List ℕ)) → AllByRecursion AreWords S → AllByRecursion AreWords T → sizes_of S ≡ sizes_of T
    → flat_map bytes_of S ≡ flat_map bytes_of T → S ≡ T
same_bodies [] [] h k n e = refl
same_bodies [] (t ∷ T) h k n e = cc
same_bodies (s ∷ S) [] h k n e = cc
same_bodies (s ∷ S) (t ∷ T) h k n e =
    let size : length s ≡ length t = cc in
    let sizes : sizes_of S ≡ sizes_of T = cc in
    let parts = same_parts (bytes_of s) (bytes_of t) (flat_map bytes_of S) (flat_map bytes_of T) (length_bytes_of s ∙ ap (λ n. 8 * n) size ∙ sym (length_bytes_of t)) e in
    let first = same_words s t h.0 k.0 size parts.0 in
    let others = same_bodies S T h.1 k.1 sizes parts.1 in cc

-- what a frame's table names is what the numbers of its bytes begin with
pub numbers_framed : (S : List (List ℕ)) (f x : List ℕ) (h : Framed S f)
    → numbers (f ++ x) ≡ (length S - 1) ∷ (sizes_of S ++ numbers (h.padding ++ (flat_map bytes_of S ++ x)))
numbers_framed S f x h =
    let last : length S - 1 < 2 ^ 32 = omega (arith, h.some, h.few) in
    let regrouped : ((table S ++ h.padding) ++ flat_map bytes_of S) ++ x ≡ table S ++ (h.padding ++ (flat_map bytes_of S ++ x)) =
    append_assoc (table S ++ h.padding) (flat_map bytes_of S) x ∙ append_assoc (table S) h.padding (flat_map bytes_of S ++ x) in
    ap (λ b. numbers (b ++ x)) h.spells ∙ ap numbers regrouped
    ∙ numbers_spelled ((length S - 1) ∷ sizes_of S) (h.padding ++ (flat_map bytes_of S ++ x)) (last, h.small)

pub length_sizes : (S : List (List ℕ)) → length (sizes_of S) ≡ length S
length_sizes [] = refl
length_sizes (s ∷ S) = omega (arith, length_sizes S)

-- how long a frame is
pub length_framed : (S : List (List ℕ)) (f : List ℕ) → Framed S f → length f ≡ 8 * (length S / 2 + 1 + sum (sizes_of S))
length_framed S f h =
    let whole : length f ≡ length ((table S ++ h.padding) ++ flat_map bytes_of S) = ap length h.spells in
    omega (
      arith,
      whole,
      length-append (table S ++ h.padding) (flat_map bytes_of S),
      length-append (table S) h.padding,
      length_bodies S,
      length_spelled ((length S - 1) ∷ sizes_of S),
      length_sizes S,
      h.whole,
      h.short,
    )

pub one_framed : (S T : List (List ℕ)) (f g x y : List ℕ) → Framed S f → Framed T g → f ++ x ≡ g ++ y → (S ≡ T) × (f ≡ g) × (x ≡ y)
one_framed S T f g x y h k e =
    let named = sym (numbers_framed S f x h) ∙ ap numbers e ∙ numbers_framed T g y k in
    let last : length S - 1 ≡ length T - 1 = cc (named) in
    let count : length S ≡ length T = omega (arith, h.some, k.some, last) in
    let tails : sizes_of S ++ numbers (h.padding ++ (flat_map bytes_of S ++ x)) ≡ sizes_of T ++ numbers (k.padding ++ (flat_map bytes_of T ++ y)) = cc (named) in
    let sizes : sizes_of S ≡ sizes_of T = (same_parts (sizes_of S) (sizes_of T) _ _ (length_sizes S ∙ count ∙ sym (length_sizes T)) tails).0 in
    let total : sum (sizes_of S) ≡ sum (sizes_of T) = ap (λ (ns : List ℕ). sum ns) sizes in
    let long : length f ≡ length g = omega (arith, length_framed S f h, length_framed T g k, total, count) in
    let whole = same_parts f g x y long e in
    let padded : length (table S ++ h.padding) ≡ length (table T ++ k.padding) =
    omega (
      arith,
      ap length whole.0,
      ap length h.spells,
      ap length k.spells,
      length-append (table S ++ h.padding) (flat_map bytes_of S),
      length-append (table T ++ k.padding) (flat_map bytes_of T),
      length_bodies S,
      length_bodies T,
      total,
    ) in
    let bodies = (same_parts (table S ++ h.padding) (table T ++ k.padding) (flat_map bytes_of S) (flat_map bytes_of T) padded (sym h.spells ∙ whole.0 ∙ k.spells)).1 in
    (same_bodies S T h.are_words k.are_words sizes bodies, whole.0, whole.1)
