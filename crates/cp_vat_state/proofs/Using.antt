-- What is in use.
use Rattle.std.proofs.Common.{◌≡◌, Bool, true, false, ℕ, List, [], ◌∷◌, map, Option, Some, None, IfSome, inl, inr, refl, sym, ap, ◌∙◌}
use Rattle.std.specs.Prelude.{T, ◌||◌}
use Rattle.std.specs.List.{list_any, flat_map}
use Rattle.std.proofs.lemmas.Bool.{cases_eq}
use Rattle.std.proofs.lemmas.List.Folds.{list_any-append}
use Rattle.std.specs.Ordering.{nat_cmp}
use Rattle.std.specs.FinMap.{find, get, get-entries, entries, entries_sorted, values}
use Rattle.std.specs.FinMap.Entries.{below_all, is_sorted}
use Rattle.cp_tables.specs.Table.{Table}
use Rattle.cp_tables.specs.declared.counted.Counted.{Counted}
use Rattle.cp_refs.specs.declared.cap.Cap.{Cap}
use Rattle.cp_refs.specs.declared.cap.Cap.TheVariants as caps
use Rattle.cp_vat_machine.specs.State.{State, new_state, with_exports}
use Rattle.cp_vat_machine.specs.Writing.{HasNoExport, IsExport}
use Rattle.cp_vat_machine.specs.InUse.{is_object, is_promise}
use Rattle.std.proofs.lemmas.Bool.Decides.{nat_tests}
use Rattle.std.proofs.Common.{arith, ◌≢◌, is_some, ◌==◌, MatchOption}
use Rattle.cp_refs.proofs.Sums.{number_ties, number_differs, left_true, right_true}
use Rattle.cp_vat_state.proofs.Joining.{find-below}
use Rattle.cp_vat_state.proofs.Indexing.{not_some, if_some, every}

-- what stands in one of the lists stands in all of them together
pub any-flat_map : {X Y : Type 0} (f : Y → Bool) (g : X → List Y) (xs : List X) → list_any f (flat_map g xs) ≡ list_any (λ x. list_any f (g x)) xs
any-flat_map f g [] = refl
any-flat_map f g (x ∷ xs) = list_any-append f (g x) (flat_map g xs) ∙ ap (λ b. list_any f (g x) || b) (any-flat_map f g xs)

either_true : (a b : Bool) → b ≡ true → (a || b) ≡ true
either_true true b h = refl
either_true false b h = h

module _ {X : Type 0} (f : X → Bool) where
  some_passes : (u v : X) → Some u ≡ Some v → f v ≡ true → f u ≡ true
  some_passes u v same passes = cc

  any-found : (es : List (ℕ × X)) (k : ℕ) (v : X) → find nat_cmp k es ≡ Some v → f v ≡ true → list_any f (map (λ e. e.1) es) ≡ true
  any-found [] k v found passes = absurd (not_some v found)
  any-found (e ∷ es) k v found passes =
      elim (cases_eq k e.0) [
        | inl same ↦ let here : Some e.1 ≡ Some v = rw (number_ties k e.0 same) at found in rw (some_passes e.1 v here passes)
        | inr other ↦ either_true (f e.1) _ (any-found es k v (rw (number_differs k e.0 other) at found) passes)
      ]

  none-found : (es : List (ℕ × X)) → T (is_sorted nat_cmp es) → ((k : ℕ) → IfSome (find nat_cmp k es) (λ v. f v ≡ false)) → list_any f (map (λ e. e.1) es) ≡ false
  none-found [] sorted fails = refl
  none-found (e ∷ es) sorted fails =
      let here : f e.1 ≡ false = rw (number_ties e.0 e.0 refl) at (fails e.0) in rw here (none-found es (right_true (below_all nat_cmp e.0 es) _ sorted) rest)
    where
      rest : (k : ℕ) → IfSome (find nat_cmp k es) (λ v. f v ≡ false)
      rest k =
          elim (cases_eq k e.0) [
            | inl same ↦ rw (same, find-below e.0 es (left_true _ _ sorted)) tt
            | inr other ↦ rw (number_differs k e.0 other) at (fails k)
          ]

  -- a value that passes is among the values
  pub any-value : (m : Table X) (k : ℕ) (v : X) → get m k ≡ Some v → f v ≡ true → list_any f (values m) ≡ true
  any-value m k v found passes = any-found (entries m) k v (sym (get-entries m k) ∙ found) passes

  -- where none passes under any number, none does among the values
  pub no-value : (m : Table X) → ((k : ℕ) → IfSome (get m k) (λ v. f v ≡ false)) → list_any f (values m) ≡ false
  no-value m fails = none-found (entries m) (entries_sorted m) (λ k. rw (← get-entries m k) (fails k))

-- any other capability isn't the promise
is_other : (p : ℕ) (cap : Cap) → cap ≢ caps.Promise p → is_promise p cap ≡ false
is_other p (caps.Promise q) other = elim (cases_eq q p) [ inl same ↦ absurd (other (ap caps.Promise same)) | inr differs ↦ grind (arith, nat_tests) ]
is_other p caps.None other = refl
is_other p (caps.Object k) other = refl
is_other p (caps.Import i) other = refl
is_other p (caps.Pipelined q path) other = refl
is_other p (caps.Broken exception) other = refl

is_itself : (p : ℕ) → (p == p) ≡ true
is_itself p = grind (arith, nat_tests)

-- a promise's export is found exactly where it is among the exports
pub is_exported : (exports : Table (Counted Cap)) (p : ℕ) (n : Option ℕ)
    → ((s : State) → MatchOption n (HasNoExport (with_exports s exports) (caps.Promise p)) (λ e. IsExport (with_exports s exports) e (caps.Promise p)))
    → is_some n ≡ list_any (λ entry. is_promise p entry.kept) (values exports)
is_exported exports p None found = sym (no-value (λ entry. is_promise p entry.kept) exports (λ e. every _ (get exports e) (λ entry here. is_other p entry.kept (if_some _ (get exports e) entry here (found (new_state None) e)))))
is_exported exports p (Some e) found =
    let here = found (new_state None) in sym (any-value (λ entry. is_promise p entry.kept) exports e (record { count = here.0; kept = caps.Promise p }) here.1 (is_itself p))

-- any other capability isn't the object
is_other_object : (k : ℕ) (cap : Cap) → cap ≢ caps.Object k → is_object k cap ≡ false
is_other_object k (caps.Object j) other = elim (cases_eq j k) [ inl same ↦ absurd (other (ap caps.Object same)) | inr differs ↦ grind (arith, nat_tests) ]
is_other_object k caps.None other = refl
is_other_object k (caps.Promise p) other = refl
is_other_object k (caps.Import i) other = refl
is_other_object k (caps.Pipelined q path) other = refl
is_other_object k (caps.Broken exception) other = refl

-- an object's export is found exactly where it is among the exports
pub is_object_exported : (exports : Table (Counted Cap)) (k : ℕ) (n : Option ℕ)
    → ((s : State) → MatchOption n (HasNoExport (with_exports s exports) (caps.Object k)) (λ e. IsExport (with_exports s exports) e (caps.Object k)))
    → is_some n ≡ list_any (λ entry. is_object k entry.kept) (values exports)
is_object_exported exports k None found = sym (no-value (λ entry. is_object k entry.kept) exports (λ e. every _ (get exports e) (λ entry here. is_other_object k entry.kept (if_some _ (get exports e) entry here (found (new_state None) e)))))
is_object_exported exports k (Some e) found =
    let here = found (new_state None) in sym (any-value (λ entry. is_object k entry.kept) exports e (record { count = here.0; kept = caps.Object k }) here.1 (is_itself k))
