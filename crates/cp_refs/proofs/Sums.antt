-- What all entries of a table hold together.
use Rattle.std.proofs.Common.{◌≡◌, ◌≢◌, ℕ, ◌+◌, ◌==◌, Bool, true, false, cond, List, [], ◌∷◌, map, Option, Some, None, inl, inr, refl, sym, ap, ◌∙◌, arith}
use Rattle.std.specs.Prelude.{T, ◌&&◌}
use Rattle.std.specs.declared.cmp.Ordering.{Ordering}
use Rattle.std.specs.declared.cmp.Ordering.TheVariants.{Less, Equal, Greater}
use Rattle.std.specs.List.{sum_by}
use Rattle.std.proofs.lemmas.Bool.{cases_eq}
use Rattle.std.proofs.lemmas.Bool.Decides.{nat_tests}
use Rattle.std.proofs.lemmas.List.Sums.{sum_by-cons}
use Rattle.std.proofs.lemmas.List.{nil_from_length}
use Rattle.std.specs.Ordering.{nat_cmp, is_lt, is_eq, eq_by_cmp}
use Rattle.std.specs.Cmp.{nat_cmp_total}
use Rattle.std.specs.FinMap.{find, put, get, get-entries, entries, entries_sorted, entries-insert, values, insert, remove, empty, len-empty, len-entries, nat_cmp-IsAntisymmetric}
use Rattle.std.specs.FinMap.Entries.{below_all, is_sorted, by_order}
use Rattle.cp_tables.specs.Table.{Table}
use Rattle.cp_tables.proofs.TableLemmas.{get-insert_same, get-remove_same, get-remove_other, is_insert}
use Rattle.cp_refs.proofs.Queueing.{remove-none}

pub number_ties : (k q : ℕ) → k ≡ q → eq_by_cmp nat_cmp k q ≡ true
number_ties k q h = grind (arith, nat_tests)

pub number_differs : (k q : ℕ) → k ≢ q → eq_by_cmp nat_cmp k q ≡ false
number_differs k q h = grind (arith, nat_tests)

pub left_true : (a b : Bool) → T (a && b) → T a
left_true true b h = tt
left_true false b h = h

pub right_true : (a b : Bool) → T (a && b) → T b
right_true true b h = h
right_true false b h = absurd h

pub below_differs : (o : Ordering) → T (is_lt o) → is_eq o ≡ false
below_differs Less h = refl
below_differs Equal h = absurd h
below_differs Greater h = refl

equal_here : (a b : ℕ) → a ≡ b → (a == b) ≡ true
equal_here a b e = grind (arith, nat_tests)

equal_not : (a b : ℕ) → a ≢ b → (a == b) ≡ false
equal_not a b e = grind (arith, nat_tests)

-- a number that is above is another one
not_tied : (k q : ℕ) → eq_by_cmp nat_cmp k q ≡ false → (q == k) ≡ false
not_tied k q e = grind (arith, nat_tests)

above_differs : (k q : ℕ) → T (is_lt (nat_cmp k q)) → (q == k) ≡ false
above_differs k q above = not_tied k q (below_differs (nat_cmp k q) above)

no_entries : {X : Type 0} → entries (empty {X = X} {R = nat_cmp}) ≡ []
no_entries {X = X} = nil_from_length (entries empty) (sym (len-entries empty) ∙ len-empty nat_cmp X)

-- an entry that was taken out is put back
put_back_in : {X : Type 0} (t : Table X) (k : ℕ) (v : X) → get t k ≡ Some v → insert (remove t k) k v ≡ t
put_back_in t k v there = sym (is_insert (remove t k) t k v there (λ q other. sym (get-remove_other t k q other)))

-- ---- what all entries of a table hold together
module _ {X : Type 0} (times : X → ℕ) where
  -- what the entry under a number holds, and what the others hold
  abbrev pub of_entry : Option X → ℕ
  of_entry None = 0
  of_entry (Some x) = times x

  abbrev of_all : List (ℕ × X) → ℕ
  of_all es = sum_by times (map (λ e. e.1) es)

  abbrev pub of_others : ℕ → List (ℕ × X) → ℕ
  of_others k [] = 0
  of_others k (e ∷ es) = cond (e.0 == k) 0 (times e.1) + of_others k es

  all_more : (e : ℕ × X) (es : List (ℕ × X)) → of_all (e ∷ es) ≡ times e.1 + of_all es
  all_more e es = sum_by-cons times e.1 (map (λ x. x.1) es)

  others_not : (k : ℕ) (e : ℕ × X) (es : List (ℕ × X)) → (e.0 == k) ≡ false → of_others k (e ∷ es) ≡ times e.1 + of_others k es
  others_not k e es differs = ap (λ b. cond b 0 (times e.1) + of_others k es) differs

  others_here : (k : ℕ) (e : ℕ × X) (es : List (ℕ × X)) → (e.0 == k) ≡ true → of_others k (e ∷ es) ≡ of_others k es
  others_here k e es same = let none : 0 + of_others k es ≡ of_others k es = omega arith in ap (λ b. cond b 0 (times e.1) + of_others k es) same ∙ none

  entry_here : (k : ℕ) (e : ℕ × X) (es : List (ℕ × X)) → k ≡ e.0 → of_entry (find nat_cmp k (e ∷ es)) ≡ times e.1
  entry_here k e es same = ap (λ b. of_entry (cond b (Some e.1) (find nat_cmp k es))) (number_ties k e.0 same)

  entry_not : (k : ℕ) (e : ℕ × X) (es : List (ℕ × X)) → k ≢ e.0 → of_entry (find nat_cmp k (e ∷ es)) ≡ of_entry (find nat_cmp k es)
  entry_not k e es other = ap (λ b. of_entry (cond b (Some e.1) (find nat_cmp k es))) (number_differs k e.0 other)

  below_others : (k : ℕ) (es : List (ℕ × X)) → T (below_all nat_cmp k es) → of_others k es ≡ of_all es
  below_others k [] below = refl
  below_others k (e ∷ es) below =
      others_not k e es (above_differs k e.0 (left_true _ _ below)) ∙ ap (λ n. times e.1 + n) (below_others k es (right_true (is_lt (nat_cmp k e.0)) _ below)) ∙ sym (all_more e es)

  split : (k : ℕ) (es : List (ℕ × X)) → T (is_sorted nat_cmp es) → of_all es ≡ of_others k es + of_entry (find nat_cmp k es)
  split k [] sorted = refl
  split k (e ∷ es) sorted =
      elim (cases_eq k e.0) [
        | inl same ↦ let below : T (below_all nat_cmp k es) = rw same (left_true _ _ sorted) in omega (arith, all_more e es, others_here k e es (equal_here e.0 k (sym same)), below_others k es below, entry_here k e es same)
        | inr other ↦ omega (arith, all_more e es, others_not k e es (equal_not e.0 k (λ same. other (sym same))), entry_not k e es other, split k es (right_true (below_all nat_cmp e.0 es) _ sorted))
      ]

  put_by : (k : ℕ) (v : X) (e : ℕ × X) (es : List (ℕ × X)) → of_others k (put nat_cmp k v es) ≡ of_others k es
      → (o : Ordering) → nat_cmp k e.0 ≡ o → of_others k (by_order o ((k, v) ∷ e ∷ es) ((e.0, v) ∷ es) (e ∷ put nat_cmp k v es)) ≡ of_others k (e ∷ es)
  put_by k v e es rest Less is = others_here k (k, v) (e ∷ es) (equal_here k k refl)
  put_by k v e es rest Equal is =
      let same = equal_here e.0 k (sym (nat_cmp-IsAntisymmetric k e.0 is)) in others_here k (e.0, v) es same ∙ sym (others_here k e es same)
  put_by k v e es rest Greater is = ap (λ n. cond (e.0 == k) 0 (times e.1) + n) rest

  others-put : (k : ℕ) (v : X) (es : List (ℕ × X)) → of_others k (put nat_cmp k v es) ≡ of_others k es
  others-put k v [] = others_here k (k, v) [] (equal_here k k refl)
  others-put k v (e ∷ es) = put_by k v e es (others-put k v es) (nat_cmp k e.0) refl

  -- a table's entries hold together what that under a number holds, and what the others hold
  abbrev pub others : Table X → ℕ → ℕ
  others t k = of_others k (entries t)

  pub together : (t : Table X) (k : ℕ) → sum_by times (values t) ≡ others t k + of_entry (get t k)
  together t k = rw (get-entries t k) (split k (entries t) (entries_sorted t))

  others-insert : (t : Table X) (k : ℕ) (v : X) → others (insert t k v) k ≡ others t k
  others-insert t k v = rw (entries-insert nat_cmp_total t k v) (others-put k v (entries t))

  others-remove : (t : Table X) (k : ℕ) → others (remove t k) k ≡ others t k
  others-remove t k = by (get t k) refl
    where
      by : (o : Option X) → get t k ≡ o → others (remove t k) k ≡ others t k
      by None none = ap (λ m. others m k) (sym (remove-none t k none))
      by (Some v) there = sym (others-insert (remove t k) k v) ∙ ap (λ m. others m k) (put_back_in t k v there)

  pub held-insert : (t : Table X) (k : ℕ) (v : X) → sum_by times (values (insert t k v)) + of_entry (get t k) ≡ sum_by times (values t) + times v
  held-insert t k v =
      let new = rw (get-insert_same t k v) at (together (insert t k v) k) in
      omega (arith, new, together t k, others-insert t k v)

  pub held-remove : (t : Table X) (k : ℕ) → sum_by times (values (remove t k)) + of_entry (get t k) ≡ sum_by times (values t)
  held-remove t k =
      let new = rw (get-remove_same t k) at (together (remove t k) k) in
      omega (arith, new, together t k, others-remove t k)

  pub held-empty : sum_by times (values (empty {X = X} {R = nat_cmp})) ≡ 0
  held-empty = ap (λ es. of_all es) no_entries
