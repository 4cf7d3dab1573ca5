-- Ordered sets of numbers, seen as finite sets.
use Rattle.std.proofs.Common.{◌≡◌, ℕ, ◌<◌, ◌≤◌, ◌==◌, Bool, true, false, cond, List, [], ◌∷◌, Option, Some, None, IfSome, refl, sym, ap, subst, ◌∙◌, arith}
use Rattle.std.specs.Prelude.{◌||◌, ◌&&◌, not, slice_get}
use Rattle.std.proofs.lemmas.Bool.Decides.{nat_tests}
use Rattle.std.specs.BTreeMap.Range.{IsLeBy}
use Rattle.std.specs.declared.ops.Bound.TheVariants.{Included, Unbounded}
use Rattle.std.specs.Ordering.{nat_cmp, eq_by_cmp, is_gt}
use Rattle.std.specs.Cmp.{nat_cmp_total}
use Rattle.std.specs.FinMap.{nat_cmp-IsAntisymmetric}
use Rattle.std.specs.FinSet.{FinSet, contains, empty, insert, remove, from_list, same_set, contains-empty, contains-from_list, contains-insert, contains-remove}
use Rattle.std.specs.BTreeSet.{BTreeSet, Updates}
use Rattle.std.specs.BTreeSet as tree
use Rattle.cp_objects.specs.Numbers.{IsFirst, IsFirstBy, Numbers, inserted, is_among}

-- a set's numbers
abbrev pub seen : BTreeSet ℕ → FinSet nat_cmp
seen s = from_list s.keys

pub contains-seen : (s : BTreeSet ℕ) (q : ℕ) → contains (seen s) q ≡ tree.contains nat_cmp s q
contains-seen s q = contains-from_list nat_cmp_total s.keys q

turn : (k q : ℕ) → eq_by_cmp nat_cmp k q ≡ eq_by_cmp nat_cmp q k
turn k q = grind (arith, nat_tests)

either : (b c : Bool) → cond b true c ≡ (b || c)
either true c = refl
either false c = refl

neither : (b c : Bool) → cond b false c ≡ (not b && c)
neither true c = refl
neither false c = refl

-- a number that is put in, and one that is taken out
pub seen-insert : (old new : BTreeSet ℕ) (k : ℕ) → Updates nat_cmp old new k true → seen new ≡ insert (seen old) k
seen-insert old new k u = same_set nat_cmp_total nat_cmp-IsAntisymmetric _ _ (λ q.
    contains-seen new q ∙ u.0 q ∙ either (eq_by_cmp nat_cmp k q) (tree.contains nat_cmp old q)
    ∙ ap (λ b. b || tree.contains nat_cmp old q) (turn k q)
    ∙ ap (λ b. eq_by_cmp nat_cmp q k || b) (sym (contains-seen old q)) ∙ sym (contains-insert nat_cmp_total (seen old) k q))

pub seen-remove : (old new : BTreeSet ℕ) (k : ℕ) → Updates nat_cmp old new k false → seen new ≡ remove (seen old) k
seen-remove old new k u = same_set nat_cmp_total nat_cmp-IsAntisymmetric _ _ (λ q.
    contains-seen new q ∙ u.0 q ∙ neither (eq_by_cmp nat_cmp k q) (tree.contains nat_cmp old q)
    ∙ ap (λ b. not b && tree.contains nat_cmp old q) (turn k q)
    ∙ ap (λ b. not (eq_by_cmp nat_cmp q k) && b) (sym (contains-seen old q)) ∙ sym (contains-remove nat_cmp_total (seen old) k q))

same_test : (k n : ℕ) → eq_by_cmp nat_cmp k n ≡ (n == k)
same_test k n = grind (arith, nat_tests)

or_none : (b : Bool) → b ≡ (b || false)
or_none true = refl
or_none false = refl

or_turned : (a b c : Bool) → ((a || b) || c) ≡ (b || (a || c))
or_turned true true c = refl
or_turned true false c = refl
or_turned false true c = refl
or_turned false false c = refl

-- numbers that are put in are there, beside what was
pub contains-inserted : (ns : List ℕ) (s : Numbers) (k : ℕ) → contains (inserted ns s) k ≡ (contains s k || is_among k ns)
contains-inserted [] s k = or_none (contains s k)
contains-inserted (n ∷ more) s k =
    contains-inserted more (insert s n) k
    ∙ ap (λ b. b || is_among k more) (contains-insert nat_cmp_total s n k)
    ∙ ap (λ b. (b || contains s k) || is_among k more) (same_test k n)
    ∙ or_turned (n == k) (contains s k) (is_among k more)

or_first : (a b c : Bool) → ((a || b) || c) ≡ (a || (b || c))
or_first true b c = refl
or_first false b c = refl

-- what is kept at first, and what is once more numbers are put in
pub kept_first : (makers : List ℕ) (kept : Numbers) (k : ℕ) (others : Bool) → kept ≡ inserted makers empty → (contains kept k || others) ≡ (is_among k makers || others)
kept_first makers kept k others e =
    rw e (ap (λ b. b || others) (contains-inserted makers empty k ∙ ap (λ b. b || is_among k makers) (contains-empty nat_cmp k)))

pub kept_next : (ns : List ℕ) (kept new : Numbers) (k : ℕ) (others all : Bool) → new ≡ inserted ns kept → (contains kept k || (is_among k ns || others)) ≡ all → (contains new k || others) ≡ all
kept_next ns kept new k others all e h =
    rw e (ap (λ b. b || others) (contains-inserted ns kept k) ∙ or_first (contains kept k) (is_among k ns) others ∙ h)

-- ---- the first of a set from a number on
not_above : (a b : ℕ) → is_gt (nat_cmp a b) ≡ false → a ≤ b
not_above a b h = grind (arith, nat_tests)

at_most : (a b : ℕ) → a ≤ b → is_gt (nat_cmp a b) ≡ false
at_most a b h = grind (arith, nat_tests)

module _ (s : BTreeSet ℕ) (from : ℕ) {r : List ℕ} (part : tree.IsKeyRangeOf nat_cmp (Included from) Unbounded s r) where
  pub first_none : r ≡ [] → IsFirstBy (λ k. tree.contains nat_cmp s k) from None
  first_none none = λ j low. part.5 none j (at_most from j low, tt)

  none_before : (k : ℕ) (rest : List ℕ) → r ≡ k ∷ rest → (j : ℕ) → from ≤ j → j < k → (b : Bool) → tree.contains nat_cmp s j ≡ b → tree.contains nat_cmp s j ≡ false
  none_before k rest is j low high true e =
      let least = subst (λ (l : List ℕ). IfSome (slice_get l 0) (λ x. IsLeBy nat_cmp x j)) is (part.2 j (at_most from j low, tt) e) in
      absurd (omega (arith, high, not_above k j least))
  none_before k rest is j low high false e = e

  pub first_some : (k : ℕ) (rest : List ℕ) → r ≡ k ∷ rest → IsFirstBy (λ q. tree.contains nat_cmp s q) from (Some k)
  first_some k rest is =
      let first = subst (λ (l : List ℕ). IfSome (slice_get l 0) (tree.IsKeyInRange nat_cmp (Included from) Unbounded s)) is part.1 in
      (not_above from k first.0.0, first.1, λ j low high. none_before k rest is j low high (tree.contains nat_cmp s j) refl)

pub seen_first : (s : BTreeSet ℕ) (from : ℕ) (first : Option ℕ) → IsFirstBy (λ k. tree.contains nat_cmp s k) from first → IsFirst from first (seen s)
seen_first s from None h = λ j low. contains-seen s j ∙ h j low
seen_first s from (Some k) h = (h.0, contains-seen s k ∙ h.1, λ j low high. contains-seen s j ∙ h.2 j low high)
