-- Tables in the order of their keys, where one entry is put in or taken out.
use Rattle.std.specs.Prelude.{◌≡◌, refl, ℕ, ◌==◌, ◌<◌, Bool, true, false, List, [], ◌∷◌, ◌++◌, map, flat_map, Some, None, T}
use Rattle.std.specs.List.{AllByRecursion}
use Rattle.std.specs.Ordering.{nat_cmp, eq_by_cmp}
use Rattle.std.specs.Cmp.{nat_cmp_total, ranks}
use Rattle.std.specs.FinMap.{get, insert, remove, entries, entries_sorted, get-entries, entries-insert}
use Rattle.std.specs.FinMap.Entries.{find, put, is_sorted, below_all}
use Rattle.std.proofs.Common.{Ordering, Less, Equal, Greater, arith, ap, sym, ◌∙◌}
use Rattle.std.proofs.lemmas.List.{append-nil}
use Rattle.std.proofs.lemmas.Bool.Decides.{nat_tests}
use Rattle.cp_tables.specs.Table.{Table}
use Rattle.cp_tables.proofs.TableLemmas.{same_table, get-remove_same}
use Rattle.cp_vat_machine.proofs.Basics.{none_out, is_equal, put_at, gone_at}
use Rattle.cp_vat_pair_laws.specs.Phases.{of_lane}
use Rattle.cp_vat_pair_laws.proofs.lane.Lists.{lane_flat, lane_cons}
use Rattle.cp_vat_laws.proofs.Tables.{sorted_first, sorted_rest}

-- what stands before an entry, and after it
pub record PlacedIn {X : Type 0} (es all : List (ℕ × X)) (k : ℕ) (v : X) : Type 0 where
  pub front : List (ℕ × X)
  pub back : List (ℕ × X)
  pub with_it : all ≡ front ++ (k, v) ∷ back
  pub without : es ≡ front ++ back
  pub lower : AllByRecursion (λ e. e.0 < k) front
  pub higher : AllByRecursion (λ e. k < e.0) back

module _ {X : Type 0} where
  above_all : (k : ℕ) (es : List (ℕ × X)) → T (below_all nat_cmp k es) → AllByRecursion (λ e. k < e.0) es
  above_all k [] h = tt
  above_all k (e ∷ es) h = by (nat_cmp k e.0) refl (above_all k es) h
    where
      by : (r : Ordering) → nat_cmp k e.0 ≡ r → (T (below_all nat_cmp k es) → AllByRecursion (λ e. k < e.0) es) → T (below_all nat_cmp k (e ∷ es))
          → AllByRecursion (λ e. k < e.0) (e ∷ es)
      by Less is more h = (rw is at (ranks k e.0), more (rw is at h))
      by Equal is more h = absurd (rw is at h)
      by Greater is more h = absurd (rw is at h)

  all_higher : (k n : ℕ) (es : List (ℕ × X)) → k < n → AllByRecursion (λ e. n < e.0) es → AllByRecursion (λ e. k < e.0) es
  all_higher k n [] less all = tt
  all_higher k n (e ∷ es) less all = (omega (arith, less, all.0), all_higher k n es less all.1)

  placed_in : (k : ℕ) (v : X) (es : List (ℕ × X)) → T (is_sorted nat_cmp es) → find nat_cmp k es ≡ None → PlacedIn es (put nat_cmp k v es) k v
  placed_in k v [] sorted none = record { front = []; back = []; with_it = refl; without = refl; lower = tt; higher = tt }
  placed_in k v (e ∷ es) sorted none = by (nat_cmp k e.0) refl (placed_in k v es (sorted_rest e es sorted)) none
    where
      by : (r : Ordering) → nat_cmp k e.0 ≡ r → (find nat_cmp k es ≡ None → PlacedIn es (put nat_cmp k v es) k v) → find nat_cmp k (e ∷ es) ≡ None
          → PlacedIn (e ∷ es) (put nat_cmp k v (e ∷ es)) k v
      by Less is more none =
          let less : k < e.0 = rw is at (ranks k e.0) in
          rw
          (is)
          (record {
            front = [];
            back = e ∷ es;
            with_it = refl;
            without = refl;
            lower = tt;
            higher = (less, all_higher k e.0 es less (above_all e.0 es (sorted_first e es sorted)));
          })
      by Equal is more none =
          let found : Some e.1 ≡ None = rw is at none in
          none_out (sym found)
      by Greater is more none =
          let rest = more (rw is at none) in
          let less : e.0 < k = rw is at (ranks k e.0) in
          rw
          (is)
          (record {
            front = e ∷ rest.front;
            back = rest.back;
            with_it = ap (λ xs. e ∷ xs) rest.with_it;
            without = ap (λ xs. e ∷ xs) rest.without;
            lower = (less, rest.lower);
            higher = rest.higher;
          })

  -- what is put in where nothing was, and what is taken out
  pub put_placed : (m : Table X) (k : ℕ) (v : X) → get m k ≡ None → PlacedIn (entries m) (entries (insert m k v)) k v
  put_placed m k v none =
      rw (entries-insert nat_cmp_total m k v) (placed_in k v (entries m) (entries_sorted m) (sym (get-entries m k) ∙ none))

  pub gone_placed : (m : Table X) (k : ℕ) (v : X) → get m k ≡ Some v → PlacedIn (entries (remove m k)) (entries m) k v
  gone_placed m k v is =
      let back_ : insert (remove m k) k v ≡ m = same_table _ _ (λ q. at q (k == q) refl) in
      rw back_ at (put_placed (remove m k) k v (get-remove_same m k))
    where
      at : (q : ℕ) (b : Bool) → (k == q) ≡ b → get (insert (remove m k) k v) q ≡ get m q
      at q true t = put_at (remove m k) k q v true t ∙ sym (rw (← is_equal k q t) is)
      at q false t = put_at (remove m k) k q v false t ∙ gone_at m k q false t

-- the values of entries
abbrev pub vals : {X : Type 0} → List (ℕ × X) → List X
vals es = map (λ e. e.1) es

vals_both : {X : Type 0} (xs ys : List (ℕ × X)) → vals (xs ++ ys) ≡ vals xs ++ vals ys
vals_both [] ys = refl
vals_both (x ∷ xs) ys = ap (λ zs. x.1 ∷ zs) (vals_both xs ys)

-- The calls of a lane among values: without one that is none of it, with one before the others, and with one after them.
module _ {X : Type 0} (made : List ℕ) (f : X → List ℕ) where
  abbrev pub lane_in : List (ℕ × X) → List ℕ
  lane_in es = of_lane made (flat_map f (vals es))

  pub lane_in_both : (xs ys : List (ℕ × X)) → lane_in (xs ++ ys) ≡ lane_in xs ++ lane_in ys
  lane_in_both xs ys = ap (λ vs. of_lane made (flat_map f vs)) (vals_both xs ys) ∙ lane_flat made f (vals xs) (vals ys)

  pub lane_in_cons : (k : ℕ) (v : X) (es : List (ℕ × X)) → lane_in ((k, v) ∷ es) ≡ of_lane made (f v) ++ lane_in es
  lane_in_cons k v es = lane_cons made f v (vals es)

  none_in : (es : List (ℕ × X)) → AllByRecursion (λ e. of_lane made (f e.1) ≡ []) es → lane_in es ≡ []
  none_in [] all = refl
  none_in (e ∷ es) all = lane_in_cons e.0 e.1 es ∙ ap (λ xs. xs ++ lane_in es) all.0 ∙ none_in es all.1

  module _ {es all : List (ℕ × X)} {k : ℕ} {v : X} (placed : PlacedIn es all k v) where
    split_all : lane_in all ≡ lane_in placed.front ++ (of_lane made (f v) ++ lane_in placed.back)
    split_all =
        ap lane_in placed.with_it ∙ lane_in_both placed.front ((k, v) ∷ placed.back) ∙ ap (λ xs. lane_in placed.front ++ xs) (lane_in_cons k v placed.back)

    split_rest : lane_in es ≡ lane_in placed.front ++ lane_in placed.back
    split_rest = ap lane_in placed.without ∙ lane_in_both placed.front placed.back

    pub lane_without : of_lane made (f v) ≡ [] → lane_in all ≡ lane_in es
    lane_without none = split_all ∙ ap (λ xs. lane_in placed.front ++ (xs ++ lane_in placed.back)) none ∙ sym split_rest

    pub lane_first : AllByRecursion (λ e. of_lane made (f e.1) ≡ []) placed.front → lane_in all ≡ of_lane made (f v) ++ lane_in es
    lane_first none =
        let empty_ = none_in placed.front none in
        split_all ∙ ap (λ xs. xs ++ (of_lane made (f v) ++ lane_in placed.back)) empty_
        ∙ ap (λ xs. of_lane made (f v) ++ xs) (sym (split_rest ∙ ap (λ xs. xs ++ lane_in placed.back) empty_))

    pub lane_last : AllByRecursion (λ e. of_lane made (f e.1) ≡ []) placed.back → lane_in all ≡ lane_in es ++ of_lane made (f v)
    lane_last none =
        let empty_ = none_in placed.back none in
        split_all ∙ ap (λ xs. lane_in placed.front ++ (of_lane made (f v) ++ xs)) empty_ ∙ ap (λ xs. lane_in placed.front ++ xs) (append-nil (of_lane made (f v)))
        ∙ ap (λ xs. xs ++ of_lane made (f v)) (sym (split_rest ∙ ap (λ xs. lane_in placed.front ++ xs) empty_ ∙ append-nil (lane_in placed.front)))

-- What holds of each entry of a table, by its key.
tied_itself : (n : ℕ) → eq_by_cmp nat_cmp n n ≡ true
tied_itself n = grind (arith, nat_tests)

tied_same : (a b : ℕ) → eq_by_cmp nat_cmp a b ≡ true → a ≡ b
tied_same a b is = grind (arith, nat_tests)

not_above : {A : Type 0} (a b : ℕ) → eq_by_cmp nat_cmp a b ≡ true → a < b → A
not_above a b is less = absurd (omega (arith, tied_same a b is, less))

found_above : {X : Type 0} (k : ℕ) (es : List (ℕ × X)) → AllByRecursion (λ e. k < e.0) es → find nat_cmp k es ≡ None
found_above k [] all = refl
found_above k (e ∷ es) all = by (eq_by_cmp nat_cmp k e.0) refl (found_above k es all.1)
  where
    by : (b : Bool) → eq_by_cmp nat_cmp k e.0 ≡ b → find nat_cmp k es ≡ None → find nat_cmp k (e ∷ es) ≡ None
    by true is rest = not_above k e.0 is all.0
    by false is rest = rw (is) rest

entries_found : {X : Type 0} (Q : ℕ → X → Type 0) (es : List (ℕ × X)) → T (is_sorted nat_cmp es) → ((k : ℕ) (v : X) → find nat_cmp k es ≡ Some v → Q k v)
    → AllByRecursion (λ e. Q e.0 e.1) es
entries_found Q [] sorted all = tt
entries_found {X = X} Q (e ∷ es) sorted all = (all e.0 e.1 here, entries_found Q es (sorted_rest e es sorted) (λ k v is. all k v (there k v is)))
  where
    here : find nat_cmp e.0 (e ∷ es) ≡ Some e.1
    here = rw (tied_itself e.0) refl

    there : (k : ℕ) (v : X) → find nat_cmp k es ≡ Some v → find nat_cmp k (e ∷ es) ≡ Some v
    there k v is = by (eq_by_cmp nat_cmp k e.0) refl
      where
        by : (b : Bool) → eq_by_cmp nat_cmp k e.0 ≡ b → find nat_cmp k (e ∷ es) ≡ Some v
        by true tied_ =
            let same : k ≡ e.0 = tied_same k e.0 tied_ in
            let none : find nat_cmp k es ≡ None = rw (same) (found_above e.0 es (above_all e.0 es (sorted_first e es sorted))) in
            none_out (sym none ∙ is)
        by false tied_ = rw (tied_) is

pub all_entries : {X : Type 0} (Q : ℕ → X → Type 0) (m : Table X) → ((k : ℕ) (v : X) → get m k ≡ Some v → Q k v) → AllByRecursion (λ e. Q e.0 e.1) (entries m)
all_entries Q m all = entries_found Q (entries m) (entries_sorted m) (λ k v is. all k v (get-entries m k ∙ is))
