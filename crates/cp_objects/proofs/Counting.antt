-- How often numbers are there, as they come and go.
use Rattle.std.proofs.Common.{◌≡◌, ℕ, zero, suc, ◌+◌, ◌-◌, ◌<◌, ◌==◌, Bool, true, false, cond, T, List, [], ◌∷◌, ◌++◌, map, Option, Some, None, is_some, Less, Equal, Greater, refl, sym, ap, subst, ◌∙◌, arith, take, drop, get_or, add-one, length}
use Rattle.std.proofs.Math.Seq.{drop-cons}
use Rattle.std.proofs.lemmas.List.{nil_from_length, take_more}
use Rattle.std.specs.Prelude.{nat_lt, ◌||◌, ◌&&◌}
use Rattle.std.specs.List.{list_any}
use Rattle.std.specs.Option.{unwrap_or}
use Rattle.std.proofs.lemmas.Bool.Decides.{nat_tests}
use Rattle.std.specs.Ordering.{nat_cmp, eq_by_cmp, is_eq, is_lt}
use Rattle.std.specs.Cmp.{nat_cmp_total}
use Rattle.std.specs.FinMap.{get, insert, remove, empty, entries, values, find, put, is_sorted, entries_sorted, entries-insert, get-insert, get-remove, get-empty, get-entries, len-empty, len-entries}
use Rattle.std.specs.FinMap.Entries.{by_order, below_all}
use Rattle.cp_tables.specs.Table.{Table}
use Rattle.cp_tables.proofs.TableLemmas.{get-remove_same, insert-remove, insert-same, remove-absent}
use Rattle.cp_refs.specs.declared.cap.Cap.{Cap}
use Rattle.cp_refs.specs.declared.cap.Cap.TheVariants as caps
use Rattle.cp_objects.specs.declared.shared_cap.LentCap.{LentCap}
use Rattle.cp_objects.specs.Counts.{AreCounts, count_of, if_any, lowered, raised, times}
use Rattle.cp_objects.specs.Lending.{import_then, imports_in, lowered_by, raised_by}
use Rattle.cp_objects.specs.Numbers.{is_among, joined_lists}

-- ---- a number more, and one less
count_is : (n : ℕ) → unwrap_or (if_any n) 0 ≡ n
count_is zero = refl
count_is (suc n) = refl

same_test : (k n : ℕ) → (n == k) ≡ eq_by_cmp nat_cmp k n
same_test k n = grind (arith, nat_tests)

is_same : (k n : ℕ) → eq_by_cmp nat_cmp k n ≡ true → n ≡ k
is_same k n e = grind (arith, nat_tests, e)

itself : (n : ℕ) → (n == n) ≡ true
itself n = grind (arith, nat_tests)

one_more : (n : ℕ) → Some (n + 1) ≡ if_any (suc n)
one_more n = ap (λ m. Some m) (omega arith)

one_less : (n : ℕ) → 1 < suc n → Some (suc n - 1) ≡ if_any n
one_less zero h = absurd (omega (arith, h))
one_less (suc n) h = ap (λ m. Some m) (omega arith)

none_left : (n : ℕ) → (1 < suc n → ⊥) → None ≡ if_any n
none_left zero h = refl
none_left (suc n) h = absurd (h (omega arith))

above : (n : ℕ) → nat_lt 1 n ≡ true → 1 < n
above n e = grind (arith, nat_tests, e)

not_above : (n : ℕ) → nat_lt 1 n ≡ false → 1 < n → ⊥
not_above n e h = grind (arith, nat_tests, e, h)

module _ (counts : Table ℕ) (n : ℕ) (ns : List ℕ) where
  at_raised : AreCounts counts ns → (k : ℕ) (b : Bool) → eq_by_cmp nat_cmp k n ≡ b → get (raised counts n) k ≡ if_any (times k (n ∷ ns))
  at_raised are k true e =
      rw (same_test k n, get-insert nat_cmp_total counts n (count_of counts n + 1) k, e, are n, count_is (times n ns), is_same k n e) (one_more (times k ns))
  at_raised are k false e = rw (same_test k n, get-insert nat_cmp_total counts n (count_of counts n + 1) k, e) (are k)

  pub raised_counts : AreCounts counts ns → AreCounts (raised counts n) (n ∷ ns)
  raised_counts are k = at_raised are k (eq_by_cmp nat_cmp k n) refl

  count_before : AreCounts counts (n ∷ ns) → count_of counts n ≡ suc (times n ns)
  count_before are = rw (are n, itself n) refl

  at_lowered : AreCounts counts (n ∷ ns) → (k : ℕ) (b more : Bool) → eq_by_cmp nat_cmp k n ≡ b → nat_lt 1 (count_of counts n) ≡ more
      → get (cond more (insert counts n (count_of counts n - 1)) (remove counts n)) k ≡ if_any (times k ns)
  at_lowered are k true true e h =
      rw (get-insert nat_cmp_total counts n (count_of counts n - 1) k, e, count_before are) (subst (λ (q : ℕ). Some (suc (times n ns) - 1) ≡ if_any (times q ns)) (is_same k n e) (one_less (times n ns) (above _ (rw (count_before are) at h))))
  at_lowered are k true false e h =
      rw (get-remove nat_cmp_total counts n k, e) (subst (λ (q : ℕ). None ≡ if_any (times q ns)) (is_same k n e) (none_left (times n ns) (not_above _ (rw (count_before are) at h))))
  at_lowered are k false true e h = rw (get-insert nat_cmp_total counts n (count_of counts n - 1) k, e, are k, same_test k n, e) refl
  at_lowered are k false false e h = rw (get-remove nat_cmp_total counts n k, e, are k, same_test k n, e) refl

  pub lowered_counts : AreCounts counts (n ∷ ns) → AreCounts (lowered counts n) ns
  lowered_counts are k = at_lowered are k (eq_by_cmp nat_cmp k n) (nat_lt 1 (count_of counts n)) refl refl

-- those that are there are those that were added
any_is : (n : ℕ) (b c : Bool) → is_some (if_any n) ≡ c → is_some (if_any (cond b (suc n) n)) ≡ (b || c)
any_is n true c e = refl
any_is n false c e = e

is_there : (k : ℕ) (ns : List ℕ) → is_some (if_any (times k ns)) ≡ is_among k ns
is_there k [] = refl
is_there k (n ∷ more) = any_is (times k more) (n == k) (is_among k more) (is_there k more)

pub has_those : (counts : Table ℕ) (ns : List ℕ) (k : ℕ) → AreCounts counts ns → is_some (get counts k) ≡ is_among k ns
has_those counts ns k are = rw (are k) (is_there k ns)

-- the empty table has no values
pub no_values : {X : Type 0} → values (empty {X = X} {R = nat_cmp}) ≡ []
no_values {X} = ap (λ (es : List (ℕ × X)). map (λ e. e.1) es) (nil_from_length _ (sym (len-entries (empty {X = X} {R = nat_cmp})) ∙ len-empty nat_cmp X))

pub no_counts : AreCounts empty []
no_counts k = get-empty nat_cmp k

-- the order doesn't matter
pub same_counts : (counts : Table ℕ) (ns ms : List ℕ) → AreCounts counts ns → ((k : ℕ) → times k ms ≡ times k ns) → AreCounts counts ms
same_counts counts ns ms are same k = rw (same k) (are k)

-- equal counts of the same numbers
pub are_counts_as : (c d : Table ℕ) (ns ms : List ℕ) → c ≡ d → ns ≡ ms → AreCounts d ms → AreCounts c ns
are_counts_as c d ns ms counts numbers are k = rw (counts, numbers) (are k)

later : (b : Bool) (m n p : ℕ) → m ≡ n + p → cond b (suc m) m ≡ cond b (suc n) n + p
later true m n p e = omega (arith, e)
later false m n p e = e

pub times-append : (k : ℕ) (ns ms : List ℕ) → times k (ns ++ ms) ≡ times k ns + times k ms
times-append k [] ms = omega arith
times-append k (n ∷ more) ms = later (n == k) _ _ _ (times-append k more ms)

-- ---- several numbers more, and several less
module _ (items : List ℕ) (i d : ℕ) (inside : i < length items) (ns : List ℕ) where
  in_turn : (k : ℕ) (front : List ℕ) (n : ℕ) → times k ((front ++ n ∷ []) ++ ns) ≡ times k (n ∷ (front ++ ns))
  in_turn k [] n = refl
  in_turn k (x ∷ more) n = ap (λ m. cond (x == k) (suc m) m) (in_turn k more n) ∙ swapped (x == k) (n == k) (times k (more ++ ns))
    where
      swapped : (a b : Bool) (m : ℕ) → cond a (suc (cond b (suc m) m)) (cond b (suc m) m) ≡ cond b (suc (cond a (suc m) m)) (cond a (suc m) m)
      swapped true true m = refl
      swapped true false m = refl
      swapped false b m = refl

  pub raised_next : (counts : Table ℕ) → AreCounts counts (take i items ++ ns) → AreCounts (raised counts (get_or items i d)) (take (i + 1) items ++ ns)
  raised_next counts are =
      same_counts _ (get_or items i d ∷ (take i items ++ ns)) _ (raised_counts counts (get_or items i d) (take i items ++ ns) are)
      (λ k. ap (λ xs. times k (xs ++ ns)) (take_more items i d inside) ∙ in_turn k (take i items) (get_or items i d))

  pub lowered_next : (counts : Table ℕ) → AreCounts counts (drop i items ++ ns) → AreCounts (lowered counts (get_or items i d)) (drop (i + 1) items ++ ns)
  lowered_next counts are =
      rw add-one (lowered_counts counts (get_or items i d) (drop (suc i) items ++ ns) (rw (drop-cons items i d inside) at are))

-- ---- a sum over the entries of a table
module _ {X : Type 0} (w : X → ℕ) where
  abbrev pub sum : List (ℕ × X) → ℕ
  sum [] = 0
  sum (e ∷ es) = w e.1 + sum es

  abbrev pub weight : Option X → ℕ
  weight None = 0
  weight (Some x) = w x

  smaller : (t y z : ℕ) → t < y → T (is_lt (nat_cmp y z)) → eq_by_cmp nat_cmp t z ≡ false
  smaller t y z h l = grind (arith, nat_tests, h, l)

  first : (a b : Bool) → T (a && b) → T a
  first true b p = tt
  first false b p = p

  second : (a b : Bool) → T (a && b) → T b
  second true b p = p
  second false b p = absurd p

  none_below : (t y : ℕ) (es : List (ℕ × X)) → t < y → T (below_all nat_cmp y es) → find nat_cmp t es ≡ None
  none_below t y [] h all = refl
  none_below t y (e ∷ es) h all = rw (smaller t y e.0 h (first _ _ all)) (none_below t y es h (second _ _ all))

  -- one more
  put_here : (v e es : ℕ) → (v + es) + e ≡ v + (e + es)
  put_here v e es = omega arith

  put_later : (a b c e f : ℕ) → a + b ≡ c + f → (e + a) + b ≡ c + (e + f)
  put_later a b c e f h = omega (arith, h)

  put_first : (a b : ℕ) → a + b + 0 ≡ a + b
  put_first a b = omega arith

  lower_than : (t y : ℕ) → nat_cmp t y ≡ Less → t < y
  lower_than t y e = grind (arith, nat_tests, e)

  sum-put : (t : ℕ) (v : X) (es : List (ℕ × X)) → T (is_sorted nat_cmp es) → sum (put nat_cmp t v es) + weight (find nat_cmp t es) ≡ w v + sum es
  sum-put t v [] h = put_first (w v) 0
  sum-put t v (e ∷ es) h =
      elim (nat_cmp t e.0) as (λ r. nat_cmp t e.0 ≡ r → sum (by_order r ((t, v) ∷ e ∷ es) ((e.0, v) ∷ es) (e ∷ put nat_cmp t v es)) + weight (cond (is_eq r) (Some e.1) (find nat_cmp t es)) ≡ w v + (w e.1 + sum es)) [
        | Less ↦ λ p. rw (none_below t e.0 es (lower_than t e.0 p) (first _ _ h)) (put_first (w v) (w e.1 + sum es))
        | Equal ↦ λ p. put_here (w v) (w e.1) (sum es)
        | Greater ↦ λ p. put_later _ _ _ (w e.1) _ (sum-put t v es (second _ _ h))
      ] refl

  sum-insert : (m : Table X) (t : ℕ) (v : X) → sum (entries (insert m t v)) + weight (get m t) ≡ w v + sum (entries m)
  sum-insert m t v = rw (entries-insert nat_cmp_total m t v, get-entries m t) (sum-put t v (entries m) (entries_sorted m))

  -- one less
  without_none : (a c : ℕ) → a + 0 ≡ c → c ≡ a
  without_none a c e = omega (arith, e)

  sum-remove : (m : Table X) (t : ℕ) (v : X) → get m t ≡ Some v → w v + sum (entries (remove m t)) ≡ sum (entries m)
  sum-remove m t v some =
      without_none _ _ (rw (get-remove_same m t) at (sum-insert (remove m t) t v)) ∙ ap (λ (n : Table X). sum (entries n)) (insert-remove m t v ∙ insert-same m t v some)

-- ---- how often a number is among the values of a table, or among those of all lists in it
module _ (k : ℕ) where
  abbrev is_it : ℕ → ℕ
  is_it v = cond (v == k) 1 0

  counted_one : (b : Bool) (m n : ℕ) → m ≡ n → cond b (suc m) m ≡ cond b 1 0 + n
  counted_one true m n e = omega (arith, e)
  counted_one false m n e = omega (arith, e)

  times_values : (es : List (ℕ × ℕ)) → times k (map (λ e. e.1) es) ≡ sum is_it es
  times_values [] = refl
  times_values (e ∷ es) = counted_one (e.1 == k) _ _ (times_values es)

  times_first : (v n : ℕ) (ns : List ℕ) → times k ns ≡ n → times k (v ∷ ns) ≡ is_it v + n
  times_first v n ns e = counted_one (v == k) (times k ns) n e

  abbrev in_list : List ℕ → ℕ
  in_list ns = times k ns

  times_lists : (es : List (ℕ × List ℕ)) → times k (joined_lists (map (λ e. e.1) es)) ≡ sum in_list es
  times_lists [] = refl
  times_lists (e ∷ es) = times-append k e.1 _ ∙ ap (λ n. times k e.1 + n) (times_lists es)

  plus_none : (a c : ℕ) → a + 0 ≡ c → a ≡ c
  plus_none a c e = omega (arith, e)

  plus_some : (a b c : ℕ) → a + b ≡ c → b + a ≡ c
  plus_some a b c e = omega (arith, e)

  module _ (m : Table ℕ) (t : ℕ) where
    before_none : (v : ℕ) → get m t ≡ None → times k (values (insert m t v)) ≡ times k (v ∷ values m)
    before_none v none =
        times_values (entries (insert m t v)) ∙ plus_none _ _ (rw none at (sum-insert is_it m t v)) ∙ sym (times_first v _ (values m) (times_values (entries m)))

    before_some : (v b : ℕ) → get m t ≡ Some b → times k (b ∷ values (insert m t v)) ≡ times k (v ∷ values m)
    before_some v b some =
        times_first b _ (values (insert m t v)) (times_values (entries (insert m t v))) ∙ plus_some _ _ _ (rw some at (sum-insert is_it m t v))
        ∙ sym (times_first v _ (values m) (times_values (entries m)))

    gone_some : (b : ℕ) → get m t ≡ Some b → times k (b ∷ values (remove m t)) ≡ times k (values m)
    gone_some b some = times_first b _ (values (remove m t)) (times_values (entries (remove m t))) ∙ sum-remove is_it m t b some ∙ sym (times_values (entries m))

  module _ (m : Table (List ℕ)) (t : ℕ) where
    lists_none : (ns : List ℕ) → get m t ≡ None → times k (joined_lists (values (insert m t ns))) ≡ times k (ns ++ joined_lists (values m))
    lists_none ns none =
        times_lists (entries (insert m t ns)) ∙ plus_none _ _ (rw none at (sum-insert in_list m t ns))
        ∙ ap (λ n. times k ns + n) (sym (times_lists (entries m))) ∙ sym (times-append k ns (joined_lists (values m)))

    lists_some : (ns bs : List ℕ) → get m t ≡ Some bs → times k (bs ++ joined_lists (values (insert m t ns))) ≡ times k (ns ++ joined_lists (values m))
    lists_some ns bs some =
        times-append k bs (joined_lists (values (insert m t ns))) ∙ ap (λ n. times k bs + n) (times_lists (entries (insert m t ns)))
        ∙ plus_some _ _ _ (rw some at (sum-insert in_list m t ns)) ∙ ap (λ n. times k ns + n) (sym (times_lists (entries m))) ∙ sym (times-append k ns (joined_lists (values m)))

    left_some : (bs : List ℕ) → get m t ≡ Some bs → times k (bs ++ joined_lists (values (remove m t))) ≡ times k (joined_lists (values m))
    left_some bs some =
        times-append k bs (joined_lists (values (remove m t))) ∙ ap (λ n. times k bs + n) (times_lists (entries (remove m t)))
        ∙ sum-remove in_list m t bs some ∙ sym (times_lists (entries m))

-- ---- counts of those who owe answers
module _ (counts : Table ℕ) (m : Table ℕ) (t v : ℕ) (are : AreCounts counts (values m)) where
  pub put_new : get m t ≡ None → AreCounts (raised counts v) (values (insert m t v))
  put_new none = same_counts (raised counts v) (v ∷ values m) _ (raised_counts counts v (values m) are) (λ k. before_none k m t v none)

  pub put_again : (b : ℕ) → get m t ≡ Some b → AreCounts (lowered (raised counts v) b) (values (insert m t v))
  put_again b some =
      lowered_counts (raised counts v) b (values (insert m t v)) (same_counts (raised counts v) (v ∷ values m) (b ∷ values (insert m t v)) (raised_counts counts v (values m) are) (λ k. before_some k m t v b some))

  pub put_back : AreCounts (lowered (raised counts v) v) (values m)
  put_back = lowered_counts (raised counts v) v (values m) (raised_counts counts v (values m) are)

  pub taken_none : get m t ≡ None → AreCounts counts (values (remove m t))
  taken_none none = subst (λ (n : Table ℕ). AreCounts counts (values n)) (sym (remove-absent m t none)) are

  pub taken_some : (b : ℕ) → get m t ≡ Some b → AreCounts (lowered counts b) (values (remove m t))
  taken_some b some = lowered_counts counts b (values (remove m t)) (same_counts counts (values m) (b ∷ values (remove m t)) are (λ k. gone_some k m t b some))

-- ---- counts of what calls name
any_joined : (k : ℕ) (nss : List (List ℕ)) → is_among k (joined_lists nss) ≡ list_any (λ ns. is_among k ns) nss
any_joined k [] = refl
any_joined k (ns ∷ more) = any_append k ns (joined_lists more) ∙ ap (λ b. is_among k ns || b) (any_joined k more)
  where
    or_again : (a b c : Bool) → (a || (b || c)) ≡ ((a || b) || c)
    or_again true b c = refl
    or_again false b c = refl

    any_append : (k : ℕ) (ns ms : List ℕ) → is_among k (ns ++ ms) ≡ (is_among k ns || is_among k ms)
    any_append k [] ms = refl
    any_append k (n ∷ more) ms = ap (λ b. (n == k) || b) (any_append k more ms) ∙ or_again (n == k) (is_among k more) (is_among k ms)

pub names_those : (counts : Table ℕ) (nss : List (List ℕ)) (k : ℕ) → AreCounts counts (joined_lists nss) → is_some (get counts k) ≡ list_any (λ ns. is_among k ns) nss
names_those counts nss k are = has_those counts (joined_lists nss) k are ∙ any_joined k nss

module _ (counts : Table ℕ) (m : Table (List ℕ)) (t : ℕ) where
  pub named_new : (ns : List ℕ) → get m t ≡ None → AreCounts counts (ns ++ joined_lists (values m)) → AreCounts counts (joined_lists (values (insert m t ns)))
  named_new ns none are = same_counts counts (ns ++ joined_lists (values m)) (joined_lists (values (insert m t ns))) are (λ k. lists_none k m t ns none)

  pub named_again : (ns bs : List ℕ) → get m t ≡ Some bs → AreCounts counts (ns ++ joined_lists (values m)) → AreCounts counts (bs ++ joined_lists (values (insert m t ns)))
  named_again ns bs some are = same_counts counts (ns ++ joined_lists (values m)) (bs ++ joined_lists (values (insert m t ns))) are (λ k. lists_some k m t ns bs some)

  pub unnamed_none : get m t ≡ None → AreCounts counts (joined_lists (values m)) → AreCounts counts (joined_lists (values (remove m t)))
  unnamed_none none are = subst (λ (n : Table (List ℕ)). AreCounts counts (joined_lists (values n))) (sym (remove-absent m t none)) are

  pub unnamed_some : (bs : List ℕ) → get m t ≡ Some bs → AreCounts counts (joined_lists (values m)) → AreCounts counts (bs ++ joined_lists (values (remove m t)))
  unnamed_some bs some are = same_counts counts (joined_lists (values m)) (bs ++ joined_lists (values (remove m t))) are (λ k. left_some k m t bs some)

-- ---- counts of the imports that are lent
module _ (k : ℕ) where
  times_then : (cap : Cap) (ns : List ℕ) → times k (import_then cap ns) ≡ times k (import_then cap []) + times k ns
  times_then (caps.Import i) ns = times-append k (i ∷ []) ns
  times_then caps.None ns = omega arith
  times_then (caps.Object n) ns = omega arith
  times_then (caps.Promise n) ns = omega arith
  times_then (caps.Pipelined n path) ns = omega arith
  times_then (caps.Broken exception) ns = omega arith

  abbrev in_cap : LentCap → ℕ
  in_cap lent = times k (import_then lent.cap [])

  times_imports : (es : List (ℕ × LentCap)) → times k (imports_in (map (λ e. e.1) es)) ≡ sum in_cap es
  times_imports [] = refl
  times_imports (e ∷ es) = times_then e.1.cap (imports_in (map (λ e. e.1) es)) ∙ ap (λ n. in_cap e.1 + n) (times_imports es)

  module _ (m : Table LentCap) (t : ℕ) where
    lent_none : (v : LentCap) → get m t ≡ None → times k (imports_in (values (insert m t v))) ≡ times k (import_then v.cap (imports_in (values m)))
    lent_none v none =
        times_imports (entries (insert m t v)) ∙ plus_none k _ _ (rw none at (sum-insert in_cap m t v)) ∙ ap (λ n. in_cap v + n) (sym (times_imports (entries m)))
        ∙ sym (times_then v.cap (imports_in (values m)))

    lent_some : (v b : LentCap) → get m t ≡ Some b → times k (import_then b.cap (imports_in (values (insert m t v)))) ≡ times k (import_then v.cap (imports_in (values m)))
    lent_some v b some =
        times_then b.cap (imports_in (values (insert m t v))) ∙ ap (λ n. in_cap b + n) (times_imports (entries (insert m t v)))
        ∙ plus_some k _ _ _ (rw some at (sum-insert in_cap m t v)) ∙ ap (λ n. in_cap v + n) (sym (times_imports (entries m))) ∙ sym (times_then v.cap (imports_in (values m)))

    unlent : (b : LentCap) → get m t ≡ Some b → times k (import_then b.cap (imports_in (values (remove m t)))) ≡ times k (imports_in (values m))
    unlent b some =
        times_then b.cap (imports_in (values (remove m t))) ∙ ap (λ n. in_cap b + n) (times_imports (entries (remove m t))) ∙ sum-remove in_cap m t b some
        ∙ sym (times_imports (entries m))

raised_imports : (counts : Table ℕ) (cap : Cap) (ns : List ℕ) → AreCounts counts ns → AreCounts (raised_by cap counts) (import_then cap ns)
raised_imports counts (caps.Import i) ns are = raised_counts counts i ns are
raised_imports counts caps.None ns are = are
raised_imports counts (caps.Object n) ns are = are
raised_imports counts (caps.Promise n) ns are = are
raised_imports counts (caps.Pipelined n path) ns are = are
raised_imports counts (caps.Broken exception) ns are = are

lowered_imports : (counts : Table ℕ) (cap : Cap) (ns : List ℕ) → AreCounts counts (import_then cap ns) → AreCounts (lowered_by cap counts) ns
lowered_imports counts (caps.Import i) ns are = lowered_counts counts i ns are
lowered_imports counts caps.None ns are = are
lowered_imports counts (caps.Object n) ns are = are
lowered_imports counts (caps.Promise n) ns are = are
lowered_imports counts (caps.Pipelined n path) ns are = are
lowered_imports counts (caps.Broken exception) ns are = are

module _ (counts : Table ℕ) (m : Table LentCap) (t : ℕ) (v : LentCap) (are : AreCounts counts (imports_in (values m))) where
  abbrev one_more_lent : Table ℕ
  one_more_lent = raised_by v.cap counts

  one_more_counts : AreCounts one_more_lent (import_then v.cap (imports_in (values m)))
  one_more_counts = raised_imports counts v.cap (imports_in (values m)) are

  pub lent_new : get m t ≡ None → AreCounts one_more_lent (imports_in (values (insert m t v)))
  lent_new none = same_counts one_more_lent (import_then v.cap (imports_in (values m))) _ one_more_counts (λ k. lent_none k m t v none)

  pub lent_again : (b : LentCap) → get m t ≡ Some b → AreCounts (lowered_by b.cap one_more_lent) (imports_in (values (insert m t v)))
  lent_again b some =
      lowered_imports one_more_lent b.cap (imports_in (values (insert m t v)))
      (same_counts one_more_lent (import_then v.cap (imports_in (values m))) (import_then b.cap (imports_in (values (insert m t v)))) one_more_counts (λ k. lent_some k m t v b some))

  pub lent_back : AreCounts (lowered_by v.cap one_more_lent) (imports_in (values m))
  lent_back = lowered_imports one_more_lent v.cap (imports_in (values m)) one_more_counts

module _ (counts : Table ℕ) (m : Table LentCap) (t : ℕ) (are : AreCounts counts (imports_in (values m))) where
  pub unlent_some : (b : LentCap) → get m t ≡ Some b → AreCounts (lowered_by b.cap counts) (imports_in (values (remove m t)))
  unlent_some b some =
      lowered_imports counts b.cap (imports_in (values (remove m t)))
      (same_counts counts (imports_in (values m)) (import_then b.cap (imports_in (values (remove m t)))) are (λ k. unlent k m t b some))
