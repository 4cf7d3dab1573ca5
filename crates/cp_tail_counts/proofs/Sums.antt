-- Sums over all numbers below one, of which the summand at one number changes.
use Rattle.std.specs.Prelude.{◌≡◌, refl, ℕ, zero, suc, ◌+◌, ◌<◌, ◌≤◌, ◌==◌, Bool, true, false}
use Rattle.std.proofs.Common.{arith}
use Rattle.std.proofs.lemmas.Bool.Decides.{nat_tests}
use Rattle.cp_vat_machine.proofs.Basics.{is_equal, not_equal}
use Rattle.cp_tail_counts.specs.Counts.{sum_below}

pub differ : (k n : ℕ) → n < k → (k == n) ≡ false
differ k n less = grind (arith, nat_tests)

module _ (f g : ℕ → ℕ) where
  pub sum_same : (n : ℕ) → ((q : ℕ) → g q ≡ f q) → sum_below g n ≡ sum_below f n
  sum_same zero same = refl
  sum_same (suc n) same = omega (arith, sum_same n same, same n)

  sum_before : (k n : ℕ) → n ≤ k → ((q : ℕ) → (k == q) ≡ false → g q ≡ f q) → sum_below g n ≡ sum_below f n
  sum_before k zero small others = refl
  sum_before k (suc n) small others = omega (arith, sum_before k n (omega arith) others, others n (differ k n (omega arith)))

  pub sum_change : (k n : ℕ) → k < n → ((q : ℕ) → (k == q) ≡ false → g q ≡ f q) → sum_below g n + f k ≡ sum_below f n + g k
  sum_change k zero less others = absurd (omega arith)
  sum_change k (suc n) less others = by (k == n) refl (λ less. sum_change k n less others)
    where
      by : (b : Bool) → (k == n) ≡ b → (k < n → sum_below g n + f k ≡ sum_below f n + g k) → sum_below g (suc n) + f k ≡ sum_below f (suc n) + g k
      by true t before = rw (is_equal k n t) (omega (arith, sum_before k n (first (is_equal k n t)) others))
        where
          first : k ≡ n → n ≤ k
          first e = omega arith
      by false t before = omega (arith, before (less_than (not_equal k n t)), others n t)
        where
          less_than : (k ≡ n → ⊥) → k < n
          less_than other = omega (arith, other)
