-- How often what passes is counted.
use Rattle.std.proofs.Common.{◌≡◌, ℕ, ◌+◌, ltb, Bool, true, false, cond, List, [], ◌∷◌, refl, sym, ap, ◌∙◌, arith}
use Rattle.std.specs.Prelude.{◌||◌}
use Rattle.std.specs.List.{sum_by, count_by, flat_map, list_any}
use Rattle.std.proofs.lemmas.Bool.Decides.{nat_tests}
use Rattle.std.proofs.lemmas.List.Sums.{sum_by-append, sum_by-cons}

-- something passes where more than none do
above_none : (b : Bool) (a : Bool) (n : ℕ) → a ≡ ltb 0 n → (b || a) ≡ ltb 0 (cond b 1 0 + n)
above_none true a n is = grind (arith, nat_tests)
above_none false a n is = let none : n ≡ 0 + n = omega arith in is ∙ ap (λ m. ltb 0 m) none

pub any_counts : {X : Type 0} (p : X → Bool) (xs : List X) → list_any p xs ≡ ltb 0 (count_by p xs)
any_counts p [] = refl
any_counts p (x ∷ xs) = above_none (p x) (list_any p xs) (count_by p xs) (any_counts p xs) ∙ ap (λ n. ltb 0 n) (sym (sum_by-cons (λ y. cond (p y) 1 0) x xs))

pub count-flat_map : {X Y : Type 0} (p : Y → Bool) (g : X → List Y) (xs : List X) → count_by p (flat_map g xs) ≡ sum_by (λ x. count_by p (g x)) xs
count-flat_map p g [] = refl
count-flat_map p g (x ∷ xs) =
    sum_by-append (λ y. cond (p y) 1 0) (g x) (flat_map g xs) ∙ ap (λ n. count_by p (g x) + n) (count-flat_map p g xs) ∙ sym (sum_by-cons (λ y. count_by p (g y)) x xs)
