-- The way into a body.
use Rattle.std.proofs.Common.{◌≡◌, ℕ, zero, suc, ◌-◌, List, Result, Ok, Err, Bool, true, false, nat_lt, ◌==◌, cond, arith}
use Rattle.std.proofs.lemmas.Bool.Decides.{nat_tests}
use Rattle.cp_reading.specs.Reading.{charged, budget_after, Kids, kids_at, rows_at}
use Rattle.cp_words.specs.declared.place.Place.{Place}
use Rattle.cp_reading.specs.declared.fault.TreeFault.{TreeFault}
use Rattle.cp_reading.specs.declared.fault.TreeFault.TheVariants as faults

module _ (at : Place) (S : List (List ℕ)) (price budget : ℕ) where
  pub charged_err : (n : ℕ) (e : TreeFault) → budget_after at n price budget ≡ Err e → charged at (kids_at n S) price budget ≡ Err e
  unfolding kids_at
  charged_err zero e h = cc
  charged_err (suc n) e h = let some : (suc n == 0) ≡ false = grind (arith, nat_tests) in go (nat_lt budget price) (rw some at h)
    where
      go : (b : Bool) → cond b (Err (faults.TraversalLimit at)) (Ok (budget - price)) ≡ Err e → ◌≡◌ {A = Result (Kids × ℕ) TreeFault} (cond b (Err (faults.TraversalLimit at)) (Ok (rows_at n S, budget - price))) (Err e)
      go true h = cc
      go false h = cc

  pub charged_ok : (n : ℕ) (rest : ℕ) → budget_after at n price budget ≡ Ok rest → charged at (kids_at n S) price budget ≡ Ok (rows_at (n - 1) S, rest)
  unfolding kids_at
  charged_ok zero rest h = cc
  charged_ok (suc n) rest h =
      let e : suc n - 1 ≡ n = omega arith in
      let some : (suc n == 0) ≡ false = grind (arith, nat_tests) in
      rw e (go (nat_lt budget price) (rw some at h))
    where
      go : (b : Bool) → cond b (Err (faults.TraversalLimit at)) (Ok (budget - price)) ≡ Ok rest → ◌≡◌ {A = Result (Kids × ℕ) TreeFault} (cond b (Err (faults.TraversalLimit at)) (Ok (rows_at n S, budget - price))) (Ok (rows_at n S, rest))
      go true h = cc
      go false h = cc
