-- Promises that are open, one after another; and ways that end, where one of them is settled.
use Rattle.std.specs.Prelude.{◌≡◌, refl, ℕ, zero, suc, ◌+◌, ◌≤◌, ◌<◌, ◌==◌, cond, Bool, true, false, List, [], ◌∷◌, Option, Some, None, length, drop, get_or}
use Rattle.std.specs.FinMap.{get, insert}
use Rattle.std.proofs.Common.{arith, ap, sym, ◌∙◌, subst}
use Rattle.std.proofs.lemmas.List.{at_drop_more}
use Rattle.std.proofs.lemmas.List.Sums.{sum_by-cons}
use Rattle.cp_tables.specs.Table.{Table}
use Rattle.cp_refs.specs.At.{cap_at}
use Rattle.cp_refs.specs.Route.{HasRoute}
use Rattle.cp_refs.specs.Values.{ValueMaps}
use Rattle.cp_refs.specs.declared.cap.Cap.{Cap}
use Rattle.cp_refs.specs.declared.outcome.Outcome.{Outcome}
use Rattle.cp_vat_machine.specs.Give.{value_for}
use Rattle.cp_vat_machine.specs.InUse.{caps_of, is_unsettled}
use Rattle.cp_vat_machine.specs.Local.{one_if, tied_to}
use Rattle.cp_vat_machine.specs.Writing.{ResolvesTo}
use Rattle.cp_vat_machine.specs.declared.entry.Tied.{Tied}
use Rattle.cp_vat_machine.proofs.Basics.{is_itself, is_equal, put_at}
use Rattle.cp_vat_laws.proofs.within.AllKept.{at_path}
use Rattle.cp_vat_laws.proofs.Tables.{all_of}
use Rattle.cp_vat_laws.proofs.within.Settle.{routes_on, settled_route}
use Rattle.cp_vat_rules.specs.Ungiven.{AllEnd, AreOpenOnce}

unsettled_is : (o : Option (Option Cap)) (n : ℕ) → 1 + n ≤ one_if (is_unsettled o) → (o ≡ Some None) × (n ≡ 0)
unsettled_is None n h = absurd (never n h)
  where
    never : (n : ℕ) → 1 + n ≤ 0 → ⊥
    never n h = omega (arith, h)
unsettled_is (Some None) n h = (refl, omega (arith, h))
unsettled_is (Some (Some value)) n h = absurd (never n h)
  where
    never : (n : ℕ) → 1 + n ≤ 0 → ⊥
    never n h = omega (arith, h)

module _ (promises : Table (Option Cap)) (tied : Tied) (more : List Tied) (all : AreOpenOnce promises (tied ∷ more)) where
  more_than : (p : ℕ) → tied_to p (tied ∷ more) ≡ cond (tied.promise == p) 1 0 + tied_to p more
  more_than p = sum_by-cons (λ (t : Tied). cond (t.promise == p) 1 0) tied more

  first_is : (get promises tied.promise ≡ Some None) × (tied_to tied.promise more ≡ 0)
  first_is =
      let one : tied_to tied.promise (tied ∷ more) ≡ 1 + tied_to tied.promise more =
      more_than tied.promise ∙ ap (λ b. cond b 1 0 + tied_to tied.promise more) (is_itself tied.promise) in
      unsettled_is (get promises tied.promise) (tied_to tied.promise more) (omega (arith, one, all tied.promise))

  -- once it is settled the others are open
  others_open : (value : Cap) → AreOpenOnce (insert promises tied.promise (Some value)) more
  others_open value p = by (tied.promise == p) refl
    where
      by : (b : Bool) → (tied.promise == p) ≡ b → tied_to p more ≤ one_if (is_unsettled (get (insert promises tied.promise (Some value)) p))
      by true t =
          let none : tied_to p more ≡ 0 = ap (λ q. tied_to q more) (sym (is_equal tied.promise p t)) ∙ first_is.1 in
          omega (arith, none)
      by false t =
          let same : tied_to p (tied ∷ more) ≡ 0 + tied_to p more = more_than p ∙ ap (λ b. cond b 1 0 + tied_to p more) t in
          rw (put_at promises tied.promise p (Some value) false t) (omega (arith, same, all p))

-- so of those that are left of a list
module _ (promises : Table (Option Cap)) (xs : List Tied) (i : ℕ) (tied : Tied) (inside : i < length xs) (is : tied ≡ get_or xs i tied)
    (all : AreOpenOnce promises (drop i xs)) where
  all_here : AreOpenOnce promises (tied ∷ drop (i + 1) xs)
  all_here = subst (AreOpenOnce promises) (at_drop_more (λ l. l) xs i tied inside ∙ ap (λ t. t ∷ drop (i + 1) xs) (sym is)) all

  pub next_open : get promises tied.promise ≡ Some None
  next_open = (first_is promises tied (drop (i + 1) xs) all_here).0

  pub rest_open : (value : Cap) → AreOpenOnce (insert promises tied.promise (Some value)) (drop (i + 1) xs)
  rest_open = others_open promises tied (drop (i + 1) xs) all_here

-- what an outcome gives has a way that ends
pub ends_at : (values : ValueMaps) (outcome : Outcome) (path : List ℕ) → AllEnd values (caps_of outcome) → HasRoute values (cap_at outcome path)
ends_at values outcome path all = at_path (HasRoute values) outcome path (1, refl) (λ x. (1, refl)) all

-- ways end also where a promise is settled to what has one
pub all_end_on : (values next : ValueMaps) (p : ℕ) (value : Cap) (table : List Cap) → get values.promises p ≡ Some None
    → next ≡ record values { promises = insert values.promises p (Some value) } → HasRoute next value → AllEnd values table → AllEnd next table
all_end_on values next p value table open_ is route all =
    let there : HasRoute (record values { promises = insert values.promises p (Some value) }) value = subst (λ v. HasRoute v value) is route in
    subst (λ v. AllEnd v table) (sym is)
    (all_of (HasRoute values) (HasRoute (record values { promises = insert values.promises p (Some value) })) table (routes_on values p value open_ there) all)

-- that has one
pub settled_ends : (values next : ValueMaps) (p : ℕ) (given last value copied : Cap) → get values.promises p ≡ Some None → ResolvesTo values given last → value ≡ value_for p last given → copied ≡ value
    → next ≡ record values { promises = insert values.promises p (Some copied) } → HasRoute next value
settled_ends values next p given last value copied open_ comes is same put =
    let there = settled_route values p (Some (value_for p last given)) open_ given last comes in
    let all : next ≡ record values { promises = insert values.promises p (Some (value_for p last given)) } =
    put ∙ ap (λ v. record values { promises = insert values.promises p (Some v) }) (same ∙ is) in
    subst (λ v. HasRoute v value) (sym all) (subst (HasRoute _) (sym is) there)

-- each of a table
pub each_ends : (values : ValueMaps) (table : List Cap) (i : ℕ) (cap : Cap) → i < length table → cap ≡ get_or table i cap → AllEnd values table → HasRoute values cap
each_ends values table i cap inside is all = subst (HasRoute values) (sym is) (item table i inside all)
  where
    item : (xs : List Cap) (i : ℕ) → i < length xs → AllEnd values xs → HasRoute values (get_or xs i cap)
    item [] i inside all = absurd (omega (arith, inside))
    item (x ∷ xs) zero inside all = all.0
    item (x ∷ xs) (suc i) inside all = item xs i (omega (arith, inside)) all.1
