-- What holds of each entry of a table, by its number.
use Rattle.std.proofs.Common.{◌≡◌, ℕ, Option, Some, IfSome, inl, inr, subst}
use Rattle.std.proofs.lemmas.Bool.{cases_eq}
use Rattle.std.specs.FinMap.{get, insert, remove}
use Rattle.cp_tables.specs.Table.{Table}
use Rattle.cp_tables.proofs.TableLemmas.{get-insert_same, get-insert_other, get-remove_same, get-remove_other}

module _ {X : Type 0} (P : ℕ → X → Type 0) where
  -- each entry is so
  abbrev pub Each : Table X → Type 0
  Each m = (q : ℕ) → IfSome (get m q) (P q)

  -- so is each with a new one that is
  pub each-insert : (m : Table X) (k : ℕ) (v : X) → Each m → P k v → Each (insert m k v)
  each-insert m k v all here q =
      elim (cases_eq q k) [
        | inl same ↦ rw (same, get-insert_same m k v) here
        | inr other ↦ rw (get-insert_other m k q v other) (all q)
      ]

  -- and each that is left
  pub each-remove : (m : Table X) (k : ℕ) → Each m → Each (remove m k)
  each-remove m k all q =
      elim (cases_eq q k) [
        | inl same ↦ rw (same, get-remove_same m k) tt
        | inr other ↦ rw (get-remove_other m k q other) (all q)
      ]

  -- an entry that is there is so
  pub entry-of : (m : Table X) (k : ℕ) (v : X) → Each m → get m k ≡ Some v → P k v
  entry-of m k v all e = subst (λ (o : Option X). IfSome o (P k)) e (all k)
