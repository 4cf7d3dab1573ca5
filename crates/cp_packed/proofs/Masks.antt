-- The bytes of a word that are zero, by a mask of them.
use Rattle.std.proofs.Common.{◌≡◌, if◌then◌else◌, Bool, true, false, cond, eqb, ℕ, suc, ◌+◌, ◌*◌, ◌^◌, List, [], ◌∷◌, length, map, count_by, Option, Some, None, refl, ◌∙◌, ap, arith}
use lib.Lanes.{mask_l}
use lib.Count.{ones}
use Rattle.std.proofs.lemmas.Bool.Decides.{nat_tests}
use Rattle.std.proofs.lemmas.List.Sums.{sum_by-cons}
use Rattle.std.proofs.lemmas.Simd.{ones-mask_l}
use Rattle.cp_packed.specs.Packed.{tag}
use Rattle.cp_packed.specs.Packing.{bytes_that_count}

same_test : (x : ℕ) → eqb x 0 ≡ eqb 0 x
same_test x = grind (arith, nat_tests)

-- how many are zero
same_count : (b : List ℕ) → count_by (λ x. eqb x 0) b ≡ count_by (eqb 0) b
same_count [] = refl
same_count (x ∷ b) =
    omega (arith, sum_by-cons (λ y. cond (eqb y 0) 1 0) x b, sum_by-cons (λ y. cond (eqb 0 y) 1 0) x b, ap {B = ℕ} (λ (t : Bool). cond t 1 0) (same_test x), same_count b)

pub zeros_counted : (b : List ℕ) → ones (mask_l (map (λ x. eqb x 0) b)) ≡ count_by (eqb 0) b
zeros_counted b = ones-mask_l (λ x. eqb x 0) b ∙ same_count b

-- and the others
pub tag_mask : (b : List ℕ) → tag (bytes_that_count b) + mask_l (map (λ x. eqb x 0) b) + 1 ≡ 2 ^ length b
tag_mask [] = omega arith
tag_mask (x ∷ b) = go (eqb x 0) (tag_mask b)
  where
    twice : 2 ^ suc (length b) ≡ 2 * 2 ^ length b
    twice = omega arith

    go : (t : Bool) → tag (bytes_that_count b) + mask_l (map (λ x. eqb x 0) b) + 1 ≡ 2 ^ length b
        → tag ((if◌then◌else◌ {A = Option ℕ} t None (Some x)) ∷ bytes_that_count b) + mask_l (t ∷ map (λ x. eqb x 0) b) + 1 ≡ 2 ^ suc (length b)
    go true rest = omega (arith, rest, twice)
    go false rest = omega (arith, rest, twice)
