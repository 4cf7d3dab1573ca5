-- Tables with one entry changed, and what holds of each of their entries.
use Rattle.std.specs.Prelude.{◌≡◌, refl, ℕ, ◌+◌, ◌≤◌, ◌==◌, cond, Bool, true, false, List, [], ◌∷◌, ◌++◌, map, flat_map, Option, Some, None, IfSome, T, ◌⊎◌, Result, Ok}
use Rattle.std.specs.Option.{option_map_or}
use Rattle.std.specs.List.{count_by, sum_by, list_any, AllByRecursion}
use Rattle.std.specs.Ordering.{nat_cmp, eq_by_cmp}
use Rattle.std.specs.Cmp.{nat_cmp_total}
use Rattle.std.specs.FinMap.{get, insert, remove, entries, entries_sorted, values, get-entries, entries-insert}
use Rattle.std.specs.FinMap.Entries.{find, put, is_sorted, below_all}
use Rattle.std.proofs.Common.{Ordering, Less, Equal, Greater, inl, inr, arith, sym, ◌∙◌, true≢false}
use Rattle.std.proofs.lemmas.Bool.Decides.{nat_tests}
use Rattle.std.proofs.lemmas.List.Sums.{sum_by-cons}
use Rattle.cp_tables.specs.Table.{Table}
use Rattle.cp_tables.proofs.TableLemmas.{same_table, get-remove_same}
use Rattle.cp_vat_machine.specs.Then.{Unless, fault_if}
use Rattle.cp_vat_machine.proofs.Basics.{some_out, none_out, is_equal, ok_out, put_at, gone_at, all_front, all_back, all_both}

module _ {X : Type 0} where
  -- what holds of each entry, by its number, and of the new one
  module _ (P Q : ℕ → X → Type 0) (table : Table X) (k : ℕ) where
    pub each_put : (new : X) → ((q : ℕ) → IfSome (get table q) (P q)) → Q k new → ((q : ℕ) (v : X) → (k == q) ≡ false → get table q ≡ Some v → P q v → Q q v)
        → (q : ℕ) → IfSome (get (insert table k new) q) (Q q)
    each_put new all here others q = by (k == q) refl
      where
        by : (b : Bool) → (k == q) ≡ b → IfSome (get (insert table k new) q) (Q q)
        by true t = rw (put_at table k q new true t, ← is_equal k q t) here
        by false t = rw (put_at table k q new false t) (old (get table q) refl (all q))
          where
            old : (o : Option X) → get table q ≡ o → IfSome o (P q) → IfSome o (Q q)
            old None is h = tt
            old (Some v) is h = others q v t is h

    pub each_gone : ((q : ℕ) → IfSome (get table q) (P q)) → ((q : ℕ) (v : X) → (k == q) ≡ false → get table q ≡ Some v → P q v → Q q v)
        → (q : ℕ) → IfSome (get (remove table k) q) (Q q)
    each_gone all others q = by (k == q) refl
      where
        by : (b : Bool) → (k == q) ≡ b → IfSome (get (remove table k) q) (Q q)
        by true t = rw (gone_at table k q true t) tt
        by false t = rw (gone_at table k q false t) (old (get table q) refl (all q))
          where
            old : (o : Option X) → get table q ≡ o → IfSome o (P q) → IfSome o (Q q)
            old None is h = tt
            old (Some v) is h = others q v t is h

    -- what holds of each entry of a table that stays
    pub each_kept : ((q : ℕ) → IfSome (get table q) (P q)) → ((q : ℕ) (v : X) → get table q ≡ Some v → P q v → Q q v) → (q : ℕ) → IfSome (get table q) (Q q)
    each_kept all others q = by (get table q) refl (all q)
      where
        by : (o : Option X) → get table q ≡ o → IfSome o (P q) → IfSome o (Q q)
        by None is h = tt
        by (Some v) is h = others q v is h

  -- what holds of an entry that is there
  pub there_of : (P : X → Type 0) (o : Option X) (v : X) → o ≡ Some v → IfSome o P → P v
  there_of P o v is h = rw is at h

  pub here_of : (P : X → Type 0) (o : Option X) → ((v : X) → o ≡ Some v → P v) → IfSome o P
  here_of P None h = tt
  here_of P (Some v) h = h v refl

-- sums over the values of a table
below_none : {X : Type 0} (k : ℕ) (es : List (ℕ × X)) → T (below_all nat_cmp k es) → find nat_cmp k es ≡ None
below_none k [] h = refl
below_none k (e ∷ es) h = by (nat_cmp k e.0) refl (below_none k es) h
  where
    by : (r : Ordering) → nat_cmp k e.0 ≡ r → (T (below_all nat_cmp k es) → find nat_cmp k es ≡ None) → T (below_all nat_cmp k (e ∷ es))
        → find nat_cmp k (e ∷ es) ≡ None
    by Less is more h = rw (is) (more (rw is at h))
    by Equal is more h = absurd (rw is at h)
    by Greater is more h = absurd (rw is at h)

abbrev pub weight : {X : Type 0} → (X → ℕ) → Option X → ℕ
weight f o = option_map_or f o 0

first_below : {X : Type 0} (k m : ℕ) (es : List (ℕ × X)) → nat_cmp k m ≡ Less → T (below_all nat_cmp m es) → T (below_all nat_cmp k es)
first_below k m [] is h = tt
first_below k m (e ∷ es) is h = by (nat_cmp m e.0) refl (first_below k m es is) h
  where
    by : (r : Ordering) → nat_cmp m e.0 ≡ r → (T (below_all nat_cmp m es) → T (below_all nat_cmp k es)) → T (below_all nat_cmp m (e ∷ es))
        → T (below_all nat_cmp k (e ∷ es))
    by Less at more h = rw (nat_cmp_total.trans k m e.0 is at) (more (rw at at h))
    by Equal at more h = absurd (rw at at h)
    by Greater at more h = absurd (rw at at h)

module _ {X : Type 0} where
  pub sorted_first : (e : ℕ × X) (es : List (ℕ × X)) → T (is_sorted nat_cmp (e ∷ es)) → T (below_all nat_cmp e.0 es)
  sorted_first e es h = by (below_all nat_cmp e.0 es) refl h
    where
      by : (b : Bool) → below_all nat_cmp e.0 es ≡ b → T (is_sorted nat_cmp (e ∷ es)) → T (below_all nat_cmp e.0 es)
      by true is h = rw (is) tt
      by false is h = absurd (rw is at h)

  pub sorted_rest : (e : ℕ × X) (es : List (ℕ × X)) → T (is_sorted nat_cmp (e ∷ es)) → T (is_sorted nat_cmp es)
  sorted_rest e es h = by (below_all nat_cmp e.0 es) refl h
    where
      by : (b : Bool) → below_all nat_cmp e.0 es ≡ b → T (is_sorted nat_cmp (e ∷ es)) → T (is_sorted nat_cmp es)
      by true is h = rw is at h
      by false is h = absurd (rw is at h)

  module _ (f : X → ℕ) where
    abbrev total : List (ℕ × X) → ℕ
    total es = sum_by f (map (λ e. e.1) es)

    total_more : (e : ℕ × X) (es : List (ℕ × X)) → total (e ∷ es) ≡ f e.1 + total es
    total_more e es = sum_by-cons f e.1 (map (λ e. e.1) es)

    put_total : (k : ℕ) (v : X) (es : List (ℕ × X)) → T (is_sorted nat_cmp es) → total (put nat_cmp k v es) + weight f (find nat_cmp k es) ≡ total es + f v
    put_total k v [] h = omega (arith, total_more (k, v) [])
    put_total k v (e ∷ es) h = by (nat_cmp k e.0) refl (put_total k v es (sorted_rest e es h))
      where
        by : (r : Ordering) → nat_cmp k e.0 ≡ r → total (put nat_cmp k v es) + weight f (find nat_cmp k es) ≡ total es + f v
            → total (put nat_cmp k v (e ∷ es)) + weight f (find nat_cmp k (e ∷ es)) ≡ total (e ∷ es) + f v
        by Less is more = rw (is, below_none k es (first_below k e.0 es is (sorted_first e es h))) (omega (arith, total_more (k, v) (e ∷ es)))
        by Equal is more = rw (is) (omega (arith, total_more e es, total_more (e.0, v) es))
        by Greater is more = rw (is) (omega (arith, more, total_more e es, total_more e (put nat_cmp k v es)))

    pub put_sum : (m : Table X) (k : ℕ) (v : X) (o : Option X) → get m k ≡ o → sum_by f (values (insert m k v)) + weight f o ≡ sum_by f (values m) + f v
    put_sum m k v o is = rw (entries-insert nat_cmp_total m k v, ← is, get-entries m k) (put_total k v (entries m) (entries_sorted m))

    pub gone_sum : (m : Table X) (k : ℕ) (v : X) → get m k ≡ Some v → sum_by f (values (remove m k)) + f v ≡ sum_by f (values m)
    gone_sum m k v is =
        let back : insert (remove m k) k v ≡ m = same_table _ _ (λ q. at q (k == q) refl) in
        let sum = put_sum (remove m k) k v None (get-remove_same m k) in
        omega (arith, rw back at sum)
      where
        at : (q : ℕ) (b : Bool) → (k == q) ≡ b → get (insert (remove m k) k v) q ≡ get m q
        at q true t = put_at (remove m k) k q v true t ∙ sym (rw (← is_equal k q t) is)
        at q false t = put_at (remove m k) k q v false t ∙ gone_at m k q false t

    pub within_sum : (m : Table X) (k : ℕ) (v : X) → get m k ≡ Some v → f v ≤ sum_by f (values m)
    within_sum m k v is = omega (arith, gone_sum m k v is)

  -- what holds of each entry of a list or a table
  module _ (P : X → Type 0) where
    all_found : (es : List (ℕ × X)) → T (is_sorted nat_cmp es) → ((k : ℕ) → IfSome (find nat_cmp k es) P) → AllByRecursion P (map (λ e. e.1) es)
    all_found [] sorted all = tt
    all_found (e ∷ es) sorted all = (rw (is_eq_itself e.0) at (all e.0), all_found es (sorted_rest e es sorted) rest)
      where
        is_eq_itself : (n : ℕ) → eq_by_cmp nat_cmp n n ≡ true
        is_eq_itself n = grind (arith, nat_tests)

        rest : (k : ℕ) → IfSome (find nat_cmp k es) P
        rest k = by (eq_by_cmp nat_cmp k e.0) refl (all k)
          where
            same : (a b : ℕ) → eq_by_cmp nat_cmp a b ≡ true → b ≡ a
            same a b is = grind (arith, nat_tests)

            by : (b : Bool) → eq_by_cmp nat_cmp k e.0 ≡ b → IfSome (find nat_cmp k (e ∷ es)) P → IfSome (find nat_cmp k es) P
            by true is h = rw (← same k e.0 is, below_none e.0 es (sorted_first e es sorted)) tt
            by false is h = rw is at h

    found_of : (k : ℕ) (v : X) (es : List (ℕ × X)) → find nat_cmp k es ≡ Some v → AllByRecursion P (map (λ e. e.1) es) → P v
    found_of k v [] is all = none_out is
    found_of k v (e ∷ es) is all = by (eq_by_cmp nat_cmp k e.0) refl (found_of k v es)
      where
        by : (b : Bool) → eq_by_cmp nat_cmp k e.0 ≡ b → (find nat_cmp k es ≡ Some v → AllByRecursion P (map (λ e. e.1) es) → P v) → P v
        by true t more = rw (← some_out (rw t at is)) all.0
        by false t more = more (rw t at is) all.1

    pub all_values : (m : Table X) → ((k : ℕ) → IfSome (get m k) P) → AllByRecursion P (values m)
    all_values m all = all_found (entries m) (entries_sorted m) (λ k. rw (← get-entries m k) (all k))

    pub value_of : (m : Table X) (k : ℕ) (v : X) → get m k ≡ Some v → AllByRecursion P (values m) → P v
    value_of m k v is all = found_of k v (entries m) (sym (get-entries m k) ∙ is) all

  pub all_of : (P Q : X → Type 0) (xs : List X) → ((x : X) → P x → Q x) → AllByRecursion P xs → AllByRecursion Q xs
  all_of P Q [] f h = tt
  all_of P Q (x ∷ xs) f h = (f x h.0, all_of P Q xs f h.1)

  pub every_of : (Q : X → Type 0) (xs : List X) → ((x : X) → Q x) → AllByRecursion Q xs
  every_of Q [] f = tt
  every_of Q (x ∷ xs) f = (f x, every_of Q xs f)

  -- where none passes
  pub none_pass : (p : X → Bool) (xs : List X) → list_any p xs ≡ false → AllByRecursion (λ x. p x ≡ false) xs
  none_pass p [] h = tt
  none_pass p (x ∷ xs) h = by (p x) refl (none_pass p xs) h
    where
      by : (b : Bool) → p x ≡ b → (list_any p xs ≡ false → AllByRecursion (λ x. p x ≡ false) xs) → list_any p (x ∷ xs) ≡ false
          → AllByRecursion (λ x. p x ≡ false) (x ∷ xs)
      by true is more h = absurd (true≢false (rw is at h))
      by false is more h = (is, more (rw is at h))

  pub pass_none : (p : X → Bool) (xs : List X) → AllByRecursion (λ x. p x ≡ false) xs → list_any p xs ≡ false
  pass_none p [] h = refl
  pass_none p (x ∷ xs) h = rw (h.0) (pass_none p xs h.1)

  count_none : (p : X → Bool) (xs : List X) → AllByRecursion (λ x. p x ≡ false) xs → count_by p xs ≡ 0
  count_none p [] h = refl
  count_none p (x ∷ xs) h = sum_by-cons (λ x. cond (p x) 1 0) x xs ∙ rw (h.0) (omega (arith, count_none p xs h.1))

  pub none_counted : (p : X → Bool) (m : Table X) → ((k : ℕ) → IfSome (get m k) (λ v. p v ≡ false)) → count_by p (values m) ≡ 0
  none_counted p m all = count_none p (values m) (all_values (λ v. p v ≡ false) m all)

module _ {X Y : Type 0} (P : Y → Type 0) (g : X → List Y) where
  pub all_flat : (xs : List X) → AllByRecursion (λ x. AllByRecursion P (g x)) xs → AllByRecursion P (flat_map g xs)
  all_flat [] h = tt
  all_flat (x ∷ xs) h = all_both P (g x) (flat_map g xs) h.0 (all_flat xs h.1)

  pub flat_all : (xs : List X) → AllByRecursion P (flat_map g xs) → AllByRecursion (λ x. AllByRecursion P (g x)) xs
  flat_all [] h = tt
  flat_all (x ∷ xs) h = (all_front P (g x) (flat_map g xs) h, flat_all xs (all_back P (g x) (flat_map g xs) h))

module _ {X Y : Type 0} (P : Y → Type 0) (g : X → Y) where
  pub all_map : (xs : List X) → AllByRecursion (λ x. P (g x)) xs → AllByRecursion P (map g xs)
  all_map [] h = tt
  all_map (x ∷ xs) h = (h.0, all_map xs h.1)

  pub map_all : (xs : List X) → AllByRecursion P (map g xs) → AllByRecursion (λ x. P (g x)) xs
  map_all [] h = tt
  map_all (x ∷ xs) h = (h.0, map_all xs h.1)

-- where no fault is answered, none of them was met
pub no_faults : {A F : Type 0} (faults : List F) (Rule : Result A F → Type 0) (x : A) → Unless faults Rule (Ok x) → faults ≡ []
no_faults [] Rule x r = refl
no_faults (fault ∷ faults) Rule x r = ok_out r

pub front_empty : {F : Type 0} (front back : List F) → front ++ back ≡ [] → front ≡ []
front_empty [] back h = refl
front_empty (fault ∷ front) back h = absurd (cc)

pub back_empty : {F : Type 0} (front back : List F) → front ++ back ≡ [] → back ≡ []
back_empty [] back h = h
back_empty (fault ∷ front) back h = absurd (cc)

pub not_met : {F : Type 0} (holds : Bool) (fault : F) → fault_if holds fault ≡ [] → holds ≡ false
not_met true fault h = absurd (cc)
not_met false fault h = refl

-- an entry after a change is the new one, or an old one
pub put_cases : {X : Type 0} (m : Table X) (k q : ℕ) (new v : X) → get (insert m k new) q ≡ Some v
    → ((k ≡ q) × (new ≡ v)) ⊎ (((k == q) ≡ false) × (get m q ≡ Some v))
put_cases m k q new v is = by (k == q) refl
  where
    by : (b : Bool) → (k == q) ≡ b → ((k ≡ q) × (new ≡ v)) ⊎ (((k == q) ≡ false) × (get m q ≡ Some v))
    by true t = inl (is_equal k q t, some_out (sym (put_at m k q new true t) ∙ is))
    by false t = inr (t, sym (put_at m k q new false t) ∙ is)

pub gone_cases : {X : Type 0} (m : Table X) (k q : ℕ) (v : X) → get (remove m k) q ≡ Some v → ((k == q) ≡ false) × (get m q ≡ Some v)
gone_cases m k q v is = by (k == q) refl
  where
    by : (b : Bool) → (k == q) ≡ b → ((k == q) ≡ false) × (get m q ≡ Some v)
    by true t = none_out (sym (gone_at m k q true t) ∙ is)
    by false t = (t, sym (gone_at m k q false t) ∙ is)
