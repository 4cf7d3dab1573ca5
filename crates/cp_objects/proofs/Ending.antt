-- The object that ends first is there.
use Rattle.std.proofs.Common.{◌≡◌, ℕ, true, List, [], ◌∷◌, Some, IsSome, is_some, refl, ap, arith}
use Rattle.std.proofs.lemmas.Bool.{false≢true}
use Rattle.std.proofs.lemmas.Bool.Decides.{nat_tests}
use Rattle.std.specs.Option.{unwrap_or}
use Rattle.std.specs.Ordering.{nat_cmp, eq_by_cmp}
use Rattle.std.specs.FinMap.{entries, find, get, get-entries}
use Rattle.cp_tables.specs.Table.{Table}
use Rattle.cp_objects.specs.Objects.{first_of_entries}

ties : (k n : ℕ) → k ≡ n → eq_by_cmp nat_cmp n k ≡ true
ties k n e = grind (arith, nat_tests, e)

found : {X : Type 0} (es : List (ℕ × X)) (n : ℕ) → first_of_entries es ≡ Some n → IsSome (find nat_cmp n es)
found [] n e = absurd (false≢true (ap is_some e))
found (entry ∷ more) n e = rw (ties entry.0 n (ap (λ o. unwrap_or o n) e)) refl

pub first_there : {X : Type 0} (m : Table X) (n : ℕ) → first_of_entries (entries m) ≡ Some n → IsSome (get m n)
first_there m n e = rw (get-entries m n) (found (entries m) n e)
