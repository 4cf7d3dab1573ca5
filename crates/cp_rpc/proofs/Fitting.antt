-- What a struct's own words and pointers leave of a limit on cost.
use Rattle.std.proofs.Common.{◌≡◌, ℕ, ◌≤◌, ◌-◌, Bool, true, false, Option, Some, None, SomeIff, nat_le, Decides, if◌then◌else◌, refl, ap, arith}
use Rattle.std.proofs.lemmas.Bool.Decides.{nat_tests}
use Rattle.cp_tree.specs.Spent.{spent}

pub is_spent : (limit cost : ℕ) (rest : Option ℕ) → SomeIff rest (cost ≤ limit) (limit - cost) → rest ≡ spent (Some limit) cost
unfolding spent
is_spent limit cost rest left = go (nat_le cost limit) (λ k. grind (arith, nat_tests), λ k. grind (arith, nat_tests)) rest left
  where
    go : (b : Bool) → Decides b (cost ≤ limit) → (r : Option ℕ) → SomeIff r (cost ≤ limit) (limit - cost) → r ≡ (if b then Some (limit - cost) else None)
    go true d None over = absurd (over (d.0 refl))
    go false d None over = refl
    go true d (Some r) some = ap Some some.1
    go false d (Some r) some = let never : false ≡ true = d.1 some.0 in absurd cc

pub not_decided : {P : Type 0} → (P → false ≡ true) → Decides false P
not_decided other = (λ e. let never : false ≡ true = e in absurd cc, other)
