-- Tickets in a heap, seen as a set.
use Rattle.std.proofs.Common.{◌≡◌, ℕ, ◌+◌, ◌≤◌, ◌==◌, List, [], ◌∷◌, ◌++◌, IsTrue, if◌then◌else◌, refl, sym, ap, ◌∙◌, arith}
use mathlib.Core.Bool.{Bool, true, false, true≢false}
use Rattle.std.specs.Prelude.{◌||◌, not, ◌&&◌}
use Rattle.std.proofs.lemmas.Bool.Decides.{nat_tests}
use Rattle.std.specs.Ordering.{nat_cmp, eq_by_cmp, is_lt}
use Rattle.std.specs.Cmp.{nat_cmp_total}
use Rattle.std.specs.List.{list_any, AllByRecursion}
use Rattle.std.specs.List.Sorted.{IsPermutation}
use Rattle.std.proofs.lemmas.List.{map-append}
use Rattle.std.proofs.lemmas.List.Folds.{list_any-append}
use Rattle.std.proofs.lemmas.List.Sums.{sum_by-append, sum_by-cons}
use Rattle.std.proofs.lemmas.List.Sorted.{IsPermutation-map, list_any-IsPermutation, sum_by-IsPermutation}
use Rattle.std.specs.FinSet.{FinSet, contains, insert, remove, from_list, same_set, contains-insert, contains-remove, contains-from_list, contains-empty, nat_cmp-IsAntisymmetric}
use Rattle.std.specs.declared.cmp.Reverse.{Reverse}
use Rattle.cp_refs.specs.Tickets.{tickets_of, times}

-- the tickets of a list as a set
abbrev pub seen : List (Reverse ℕ) → FinSet nat_cmp
seen items = from_list (tickets_of items)

-- whether numbers tie
ties : (q k : ℕ) → eq_by_cmp nat_cmp q k ≡ (k == q)
ties q k = grind (arith, nat_tests)

tie_itself : (q : ℕ) → (q == q) ≡ true
tie_itself q = grind (arith, nat_tests)

pub contains-insert_nat : (s : FinSet nat_cmp) (k q : ℕ) → contains (insert s k) q ≡ ((k == q) || contains s q)
contains-insert_nat s k q = contains-insert nat_cmp_total s k q ∙ ap (λ b. b || contains s q) (ties q k)

pub contains-remove_nat : (s : FinSet nat_cmp) (k q : ℕ) → contains (remove s k) q ≡ (not (k == q) && contains s q)
contains-remove_nat s k q = contains-remove nat_cmp_total s k q ∙ ap (λ b. not b && contains s q) (ties q k)

pub same_numbers : (s t : FinSet nat_cmp) → ((q : ℕ) → contains s q ≡ contains t q) → s ≡ t
same_numbers s t h = same_set nat_cmp_total nat_cmp-IsAntisymmetric s t h

-- a list in another order is the same set
pub seen-permutation : (xs ys : List (Reverse ℕ)) → IsPermutation xs ys → seen ys ≡ seen xs
seen-permutation xs ys p = same_numbers (seen ys) (seen xs) (λ q.
    contains-from_list nat_cmp_total (tickets_of ys) q
    ∙ sym (list_any-IsPermutation (eq_by_cmp nat_cmp q) (tickets_of xs) (tickets_of ys) (IsPermutation-map (λ r. r.0) xs ys p))
    ∙ sym (contains-from_list nat_cmp_total (tickets_of xs) q))

-- each ticket stands there as often
pub times-permutation : (t : ℕ) (xs ys : List (Reverse ℕ)) → IsPermutation xs ys → times t (tickets_of ys) ≡ times t (tickets_of xs)
times-permutation t xs ys p = sum_by-IsPermutation (λ k. if k == t then 1 else 0) (tickets_of xs) (tickets_of ys) (IsPermutation-map (λ r. r.0) xs ys p)

-- one ticket more
times-cons : (t k : ℕ) (ts : List ℕ) → times t (k ∷ ts) ≡ (if k == t then 1 else 0) + times t ts
times-cons t k ts = sum_by-cons (λ x. if x == t then 1 else 0) k ts

-- two lists together are both sets
pub seen-append : (xs ys : List (Reverse ℕ)) (q : ℕ) → contains (seen (xs ++ ys)) q ≡ (contains (seen xs) q || contains (seen ys) q)
seen-append xs ys q =
    contains-from_list nat_cmp_total (tickets_of (xs ++ ys)) q
    ∙ ap (λ ts. list_any (eq_by_cmp nat_cmp q) ts) (map-append (λ r. r.0) xs ys)
    ∙ list_any-append (eq_by_cmp nat_cmp q) (tickets_of xs) (tickets_of ys)
    ∙ ap (λ b. b || list_any (eq_by_cmp nat_cmp q) (tickets_of ys)) (sym (contains-from_list nat_cmp_total (tickets_of xs) q))
    ∙ ap (λ b. contains (seen xs) q || b) (sym (contains-from_list nat_cmp_total (tickets_of ys) q))

pub times-append : (t : ℕ) (xs ys : List (Reverse ℕ)) → times t (tickets_of (xs ++ ys)) ≡ times t (tickets_of xs) + times t (tickets_of ys)
times-append t xs ys = ap (λ ts. times t ts) (map-append (λ r. r.0) xs ys) ∙ sum_by-append (λ k. if k == t then 1 else 0) (tickets_of xs) (tickets_of ys)

false_left : (a b : Bool) → (a || b) ≡ false → a ≡ false
false_left true b h = h
false_left false b h = refl

false_right : (a b : Bool) → (a || b) ≡ false → b ≡ false
false_right true b h = absurd (true≢false h)
false_right false b h = h

-- a ticket that isn't in the set stands nowhere in the list
pub times-absent : (t : ℕ) (ts : List ℕ) → contains (from_list {R = nat_cmp} ts) t ≡ false → times t ts ≡ 0
times-absent t [] h = refl
times-absent t (k ∷ ts) h =
    let e = sym (contains-insert_nat (from_list ts) k t) ∙ h in
    let rest = times-absent t ts (false_right (k == t) (contains (from_list ts) t) e) in
    rw (times-cons t k ts, false_left (k == t) (contains (from_list ts) t) e) (omega (arith, rest))

-- and one that stands nowhere in the list isn't in the set
pub absent-times : (t : ℕ) (ts : List ℕ) → times t ts ≡ 0 → contains (from_list {R = nat_cmp} ts) t ≡ false
absent-times t [] h = contains-empty nat_cmp t
absent-times t (k ∷ ts) h = contains-insert_nat (from_list ts) k t ∙ by_test (λ e. absent-times t ts e) (k == t) (sym (times-cons t k ts) ∙ h)
  where
    by_test : (times t ts ≡ 0 → contains (from_list {R = nat_cmp} ts) t ≡ false) → (b : Bool) → (if b then 1 else 0) + times t ts ≡ 0 → (b || contains (from_list {R = nat_cmp} ts) t) ≡ false
    by_test after true e = absurd (omega (arith, e))
    by_test after false e = after (omega (arith, e))

-- to leave one out makes it no more
none_more : (b : Bool) (m n : ℕ) → (if b then 1 else 0) + m ≡ n → n ≤ 1 → m ≤ 1
none_more true m n e h = omega (arith, e, h)
none_more false m n e h = omega (arith, e, h)

none_left : (b : Bool) (m n : ℕ) → b ≡ true → (if b then 1 else 0) + m ≡ n → n ≤ 1 → m ≡ 0
none_left true m n t e h = omega (arith, e, h)
none_left false m n t e h = absurd (true≢false (sym t))

-- a ticket that is put in once is alone
pub once-push : (k : ℕ) (xs ys : List (Reverse ℕ)) (r : Reverse ℕ) → r.0 ≡ k → IsPermutation (r ∷ xs) ys → contains (seen xs) k ≡ false → ((t : ℕ) → times t (tickets_of xs) ≤ 1) → (t : ℕ) → times t (tickets_of ys) ≤ 1
once-push k xs ys r e p none once t =
    rw (times-permutation t (r ∷ xs) ys p, times-cons t r.0 (tickets_of xs)) (by_test (r.0 == t) refl)
  where
    by_test : (b : Bool) → (r.0 == t) ≡ b → (if b then 1 else 0) + times t (tickets_of xs) ≤ 1
    by_test true h =
        let is : k ≡ t = sym e ∙ grind (arith, nat_tests, h) in
        omega (arith, times-absent t (tickets_of xs) (rw is at none))
    by_test false h = omega (arith, once t)

-- if no ticket is in both lists, each is alone in them together
pub once-append :
    (xs ys zs : List (Reverse ℕ))
    → IsPermutation (xs ++ ys) zs
    → ((t : ℕ) → IsTrue (contains (seen xs) t) → contains (seen ys) t ≡ false)
    → ((t : ℕ) → times t (tickets_of xs) ≤ 1)
    → ((t : ℕ) → times t (tickets_of ys) ≤ 1)
    → (t : ℕ) → times t (tickets_of zs) ≤ 1
once-append xs ys zs p apart one two t =
    rw (times-permutation t (xs ++ ys) zs p, times-append t xs ys) (by_test (contains (seen xs) t) refl)
  where
    by_test : (b : Bool) → contains (seen xs) t ≡ b → times t (tickets_of xs) + times t (tickets_of ys) ≤ 1
    by_test true h = omega (arith, one t, times-absent t (tickets_of ys) (apart t h))
    by_test false h = omega (arith, two t, times-absent t (tickets_of xs) h)

-- the lowest goes, and the others stay
pub once-pop : (xs ys : List (Reverse ℕ)) (r : Reverse ℕ) → IsPermutation xs (r ∷ ys) → ((t : ℕ) → times t (tickets_of xs) ≤ 1) → (t : ℕ) → times t (tickets_of ys) ≤ 1
once-pop xs ys r p once t = none_more (r.0 == t) (times t (tickets_of ys)) (times t (tickets_of xs)) (sym (times-cons t r.0 (tickets_of ys)) ∙ times-permutation t xs (r ∷ ys) p) (once t)

popped_back : (a b : Bool) → (a ≡ true → b ≡ false) → b ≡ (not a && (a || b))
popped_back true b h = h refl
popped_back false b h = refl

pub seen-pop : (xs ys : List (Reverse ℕ)) (r : Reverse ℕ) → IsPermutation xs (r ∷ ys) → ((t : ℕ) → times t (tickets_of xs) ≤ 1) → (contains (seen xs) r.0 ≡ true) × (seen ys ≡ remove (seen xs) r.0)
seen-pop xs ys r p once =
    let whole : seen xs ≡ insert (seen ys) r.0 = sym (seen-permutation xs (r ∷ ys) p) in
    let here : (r.0 == r.0) ≡ true = tie_itself r.0 in
    let none = none_left (r.0 == r.0) (times r.0 (tickets_of ys)) (times r.0 (tickets_of xs)) here (sym (times-cons r.0 r.0 (tickets_of ys)) ∙ times-permutation r.0 xs (r ∷ ys) p) (once r.0) in (
      rw (whole, contains-insert_nat (seen ys) r.0 r.0, here),
      same_numbers _ _ (λ q. rw (whole, contains-remove_nat (insert (seen ys) r.0) r.0 q, contains-insert_nat (seen ys) r.0 q) (popped_back (r.0 == q) (contains (seen ys) q) (λ h.
          let is : r.0 ≡ q = grind (arith, nat_tests, h) in
          rw (sym is) (absent-times r.0 (tickets_of ys) none)))),
    )

-- what is no lower than all the others is no lower than what the set has
pub lowest-of : (x : ℕ) (items : List (Reverse ℕ)) → AllByRecursion (λ y. is_lt (nat_cmp y.0 x) ≡ false) items → (q : ℕ) → contains (seen items) q ≡ true → x ≤ q
lowest-of x [] all q h = absurd (true≢false (sym h ∙ contains-empty nat_cmp q))
lowest-of x (r ∷ items) all q h = by_test (λ after. lowest-of x items all.1 q after) (r.0 == q) refl
  where
    by_test : (contains (seen items) q ≡ true → x ≤ q) → (b : Bool) → (r.0 == q) ≡ b → x ≤ q
    by_test after true e = let low = all.0 in grind (arith, nat_tests, e, low)
    by_test after false e = after (rw e at (sym (contains-insert_nat (seen items) r.0 q) ∙ h))
