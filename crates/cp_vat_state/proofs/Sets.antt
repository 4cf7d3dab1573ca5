-- Ordered sets of numbers, seen as finite sets.
use Rattle.std.proofs.Common.{◌≡◌, ℕ, Bool, true, false, cond, refl, sym, ap, ◌∙◌, arith}
use Rattle.std.specs.Prelude.{◌||◌, ◌&&◌, not}
use Rattle.std.proofs.lemmas.Bool.Decides.{nat_tests}
use Rattle.std.specs.Ordering.{nat_cmp, eq_by_cmp}
use Rattle.std.specs.Cmp.{nat_cmp_total}
use Rattle.std.specs.FinMap.{nat_cmp-IsAntisymmetric}
use Rattle.std.specs.FinSet.{FinSet, contains, insert, remove, from_list, same_set, contains-from_list, contains-insert, contains-remove}
use Rattle.std.specs.BTreeSet.{BTreeSet, Updates}
use Rattle.std.specs.BTreeSet as tree

-- a set's numbers
abbrev pub seen : BTreeSet ℕ → FinSet nat_cmp
seen s = from_list s.keys

pub contains-seen : (s : BTreeSet ℕ) (q : ℕ) → contains (seen s) q ≡ tree.contains nat_cmp s q
contains-seen s q = contains-from_list nat_cmp_total s.keys q

turn : (k q : ℕ) → eq_by_cmp nat_cmp k q ≡ eq_by_cmp nat_cmp q k
turn k q = grind (arith, nat_tests)

either : (b c : Bool) → cond b true c ≡ (b || c)
either true c = refl
either false c = refl

neither : (b c : Bool) → cond b false c ≡ (not b && c)
neither true c = refl
neither false c = refl

-- a number that is put in, and one that is taken out
pub seen-insert : (old new : BTreeSet ℕ) (k : ℕ) → Updates nat_cmp old new k true → seen new ≡ insert (seen old) k
seen-insert old new k u = same_set nat_cmp_total nat_cmp-IsAntisymmetric _ _ (λ q.
    contains-seen new q ∙ u.0 q ∙ either (eq_by_cmp nat_cmp k q) (tree.contains nat_cmp old q)
    ∙ ap (λ b. b || tree.contains nat_cmp old q) (turn k q)
    ∙ ap (λ b. eq_by_cmp nat_cmp q k || b) (sym (contains-seen old q)) ∙ sym (contains-insert nat_cmp_total (seen old) k q))

pub seen-remove : (old new : BTreeSet ℕ) (k : ℕ) → Updates nat_cmp old new k false → seen new ≡ remove (seen old) k
seen-remove old new k u = same_set nat_cmp_total nat_cmp-IsAntisymmetric _ _ (λ q.
    contains-seen new q ∙ u.0 q ∙ neither (eq_by_cmp nat_cmp k q) (tree.contains nat_cmp old q)
    ∙ ap (λ b. not b && tree.contains nat_cmp old q) (turn k q)
    ∙ ap (λ b. not (eq_by_cmp nat_cmp q k) && b) (sym (contains-seen old q)) ∙ sym (contains-remove nat_cmp_total (seen old) k q))
