-- What going over the words leaves, step by step.
use Rattle.std.proofs.Common.{◌≡◌, ℕ, zero, suc, ◌+◌, ◌-◌, ◌*◌, ◌<◌, List, Result, Ok, Err, Option, Some, refl, sym, ap, ◌∙◌, add-zero, arith}
use Rattle.cp_tree.specs.Node.{Node, Nodes, node}
use Rattle.cp_reading.specs.Visited.{passed, pointers, pointers_of_row, pointers_of_bodies}
use Rattle.cp_reading.specs.Reading.{◌>>=◌, Read, Kids, row_by, bodies_by, target_by, area_by, body_by, pointer_by}
use Rattle.cp_reading.specs.declared.target.PointerTarget.{PointerTarget}
use Rattle.cp_words.specs.declared.place.Place.{Place}
use Rattle.cp_words.specs.declared.pointer.Pointer.{Pointer}
use Rattle.cp_words.specs.declared.pointer.Pointer.TheVariants as pointers
use Rattle.cp_reading.specs.declared.fault.TreeFault.{TreeFault}

-- Making a tree of what was read: its words are visited before, or with it.
pub passed-made : {A B : Type 0} (r : Read A) (f : A → B) (visited : A → ℕ) (all : B → ℕ) (before more : ℕ) → ((x : A) → before + all (f x) ≡ more + visited x)
    → passed all before (r >>= λ x. Ok (f x.0, x.1)) ≡ passed visited more r
passed-made (Ok x) f visited all before more e = rw (e x.0)
passed-made (Err d) f visited all before more e = refl

-- one reading and then another
passed-then : {A B : Type 0} (r : Read A) (f : A × ℕ → Read B) (visited : A → ℕ) (all : B → ℕ) (before more : ℕ) (g : ℕ → ℕ → Result (ℕ × ℕ) TreeFault)
    → ((x : A × ℕ) → passed all before (f x) ≡ g x.1 (more + visited x.0)) → passed all before (r >>= f) ≡ (passed visited more r >>= λ l. g l.0 l.1)
passed-then (Ok x) f visited all before more g e = e x
passed-then (Err d) f visited all before more g e = refl

module _ (read : ℕ → ℕ → Read Node) where
  passed-row : (n p budget before : ℕ) → passed pointers_of_row before (row_by read (suc n) p budget) ≡ (passed pointers (before + 1) (read p budget) >>= λ l. passed pointers_of_row l.1 (row_by read n (p + 1) l.0))
  unfolding row_by
  passed-row n p budget before =
      passed-then (read p budget) _ pointers pointers_of_row before (before + 1) (λ l v. passed pointers_of_row v (row_by read n (p + 1) l))
      (λ t. passed-made (row_by read n (p + 1) t.1) (λ ts. node t.0 ts) pointers_of_row pointers_of_row before (before + 1 + pointers t.0) (λ ts. omega arith))

  -- In a loop: m words are left to go over.
  module _ (m p budget visits : ℕ) (all : Result (ℕ × ℕ) TreeFault) (so_far : passed pointers_of_row visits (row_by read m p budget) ≡ all) where
    step : 0 < m → (passed pointers (visits + 1) (read p budget) >>= λ l. passed pointers_of_row l.1 (row_by read (m - 1) (p + 1) l.0)) ≡ all
    step some = let n : m ≡ suc (m - 1) = omega arith in sym (passed-row (m - 1) p budget visits) ∙ rw (← n) so_far

    pub row_fails : (e : TreeFault) → 0 < m → passed pointers (visits + 1) (read p budget) ≡ Err e → all ≡ Err e
    row_fails e some f = sym (step some) ∙ rw f

    pub row_goes_on : (rest now : ℕ) → 0 < m → passed pointers (visits + 1) (read p budget) ≡ Ok (rest, now) → passed pointers_of_row now (row_by read (m - 1) (p + 1) rest) ≡ all
    row_goes_on rest now some f = rw (← step some, f)

    pub row_ends : m ≡ 0 → all ≡ Ok (budget, visits)
    unfolding row_by
    row_ends none = sym so_far ∙ rw (none, add-zero) refl

module _ (kids : ℕ → ℕ → ℕ → Read Nodes) (S : List (List ℕ)) (s d c : ℕ) where
  passed-bodies : (n q budget before : ℕ) → passed pointers_of_bodies before (bodies_by kids S s d c (suc n) q budget) ≡ (passed pointers_of_row before (kids c (q + d) budget) >>= λ l. passed pointers_of_bodies l.1 (bodies_by kids S s d c n (q + d + c) l.0))
  unfolding bodies_by
  passed-bodies n q budget before =
      passed-then (kids c (q + d) budget) _ pointers_of_row pointers_of_bodies before before (λ l v. passed pointers_of_bodies v (bodies_by kids S s d c n (q + d + c) l))
      (λ ts. passed-made (bodies_by kids S s d c n (q + d + c) ts.1) _ pointers_of_bodies pointers_of_bodies before (before + pointers_of_row ts.0) (λ bs. omega arith))

  module _ (m q budget visits : ℕ) (all : Result (ℕ × ℕ) TreeFault) (so_far : passed pointers_of_bodies visits (bodies_by kids S s d c m q budget) ≡ all) where
    bodies_step : 0 < m → (passed pointers_of_row visits (kids c (q + d) budget) >>= λ l. passed pointers_of_bodies l.1 (bodies_by kids S s d c (m - 1) (q + d + c) l.0)) ≡ all
    bodies_step some = let n : m ≡ suc (m - 1) = omega arith in sym (passed-bodies (m - 1) q budget visits) ∙ rw (← n) so_far

    pub bodies_fail : (e : TreeFault) → 0 < m → passed pointers_of_row visits (kids c (q + d) budget) ≡ Err e → all ≡ Err e
    bodies_fail e some f = sym (bodies_step some) ∙ rw f

    pub bodies_go_on : (rest now : ℕ) → 0 < m → passed pointers_of_row visits (kids c (q + d) budget) ≡ Ok (rest, now) → passed pointers_of_bodies now (bodies_by kids S s d c (m - 1) (q + d + c) rest) ≡ all
    bodies_go_on rest now some f = rw (← bodies_step some, f)

    pub bodies_end : m ≡ 0 → all ≡ Ok (budget, visits)
    unfolding bodies_by
    bodies_end none = sym so_far ∙ rw (none, add-zero) refl

-- elements without pointers leave all
pub passed-flat : (read : ℕ → ℕ → Read Node) (S : List (List ℕ)) (s d n q budget before : ℕ) → passed pointers_of_bodies before (bodies_by (row_by read) S s d 0 n q budget) ≡ Ok (budget, before)
unfolding row_by bodies_by
passed-flat read S s d zero q budget before = rw add-zero refl
passed-flat read S s d (suc n) q budget before =
    passed-made (bodies_by (row_by read) S s d 0 n (q + d + 0) budget) _ pointers_of_bodies pointers_of_bodies before before (λ bs. omega arith)
    ∙ passed-flat read S s d n (q + d + 0) budget before

-- a pointer that aims at a body
pub target_found : (at : Place) (kids : Option Kids) (S : List (List ℕ)) (budget : ℕ) (r : Pointer) (target : PointerTarget) → target_by at S r ≡ Ok target → pointer_by at kids S budget (Some r) ≡ (area_by at S target >>= body_by at kids S budget)
target_found at kids S budget pointers.Null target e = cc
target_found at kids S budget (pointers.Cap i) target e = cc
target_found at kids S budget (pointers.Struct offset d n) target e = ap (λ q. q >>= area_by at S >>= body_by at kids S budget) e
target_found at kids S budget (pointers.List offset size n) target e = ap (λ q. q >>= area_by at S >>= body_by at kids S budget) e
target_found at kids S budget (pointers.Far double place other) target e = ap (λ q. q >>= area_by at S >>= body_by at kids S budget) e

-- one of m things of size w, and the others
pub one_fewer : (m w : ℕ) → 0 < m → m * w ≡ w + (m - 1) * w
one_fewer zero w some = absurd (omega arith)
one_fewer (suc n) w some = let e : suc n - 1 ≡ n = omega arith in rw e (omega arith)
