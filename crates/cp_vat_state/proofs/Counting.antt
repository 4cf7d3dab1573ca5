-- How often things are counted.
use Rattle.std.proofs.Common.{◌≡◌, ℕ, ◌+◌, ◌-◌, ◌<◌, ◌≤◌, ◌==◌, Bool, true, false, List, Option, None, take, length, get_or, refl, sym, arith}
use Rattle.std.proofs.lemmas.Bool.Decides.{nat_tests}
use Rattle.std.proofs.lemmas.List.Sums.{sum_by_more}
use Rattle.std.specs.Option.{unwrap_or}
use Rattle.std.specs.Ordering.{nat_cmp}
use Rattle.std.specs.FinMap.{get, insert, remove, empty, get-empty}
use Rattle.cp_tables.specs.Table.{Table}
use Rattle.cp_tables.proofs.TableLemmas.{get-insert_same, get-insert_other, get-remove_same, get-remove_other}
use Rattle.cp_vat_machine.proofs.Basics.{is_equal, not_equal}
use Rattle.cp_refs.specs.declared.cap.Cap.{Cap}
use Rattle.cp_refs.specs.declared.cap.Cap.TheVariants as caps
use Rattle.cp_vat_state.specs.Sought.{is_same, is_sought, is_named, key_of, named_by}
use Rattle.cp_vat_state.specs.Counts.{once, times_named, times_in}
use Rattle.cp_vat_state.specs.declared.sought.Sought.{Sought}
use Rattle.cp_vat_state.specs.declared.sought.Sought.TheVariants as sought

-- ---- one table of counts
module _ (t : Table ℕ) where
  abbrev at : ℕ → ℕ
  at n = unwrap_or (get t n) 0

  pub counted_more : (id count n : ℕ) → count ≡ at id + 1 → unwrap_or (get (insert t id count) n) 0 ≡ at n + once (id == n)
  counted_more id count n is = by (id == n) refl
    where
      by : (b : Bool) → (id == n) ≡ b → unwrap_or (get (insert t id count) n) 0 ≡ at n + once b
      by true e = let same = is_equal id n e in rw (← same, get-insert_same t id count) is
      by false e = rw (get-insert_other t id n count (λ same. not_equal id n e (sym same))) (omega arith)

  pub counted_less : (id count n : ℕ) → count ≡ at id - 1 → unwrap_or (get (insert t id count) n) 0 ≡ at n - once (id == n)
  counted_less id count n is = by (id == n) refl
    where
      by : (b : Bool) → (id == n) ≡ b → unwrap_or (get (insert t id count) n) 0 ≡ at n - once b
      by true e = let same = is_equal id n e in rw (← same, get-insert_same t id count) is
      by false e = rw (get-insert_other t id n count (λ same. not_equal id n e (sym same))) (omega arith)

  pub counted_out : (id n : ℕ) → at id ≤ 1 → unwrap_or (get (remove t id) n) 0 ≡ at n - once (id == n)
  counted_out id n few = by (id == n) refl
    where
      by : (b : Bool) → (id == n) ≡ b → unwrap_or (get (remove t id) n) 0 ≡ at n - once b
      by true e = let same = is_equal id n e in rw (← same, get-remove_same t id) (omega (arith, few))
      by false e = rw (get-remove_other t id n (λ same. not_equal id n e (sym same))) (omega arith)

pub counted_none : (n : ℕ) → unwrap_or (get (empty {X = ℕ} {R = nat_cmp}) n) 0 ≡ 0
counted_none n = rw (get-empty nat_cmp n) refl

-- what isn't there was counted 0 times
pub not_counted : (o : Option ℕ) → o ≡ None → unwrap_or o 0 ≡ 0
not_counted o none = rw none refl

-- ---- keys
-- two have one key exactly if they are the same
pub same_key : (x s : Sought) → (key_of x == key_of s) ≡ is_same s x
same_key (sought.Import i) (sought.Import j) = grind (arith, nat_tests)
same_key (sought.Import i) (sought.Promise r) = grind (arith, nat_tests)
same_key (sought.Import i) (sought.Object l) = grind (arith, nat_tests)
same_key (sought.Import i) (sought.PathOf n) = grind (arith, nat_tests)
same_key (sought.Promise p) (sought.Import j) = grind (arith, nat_tests)
same_key (sought.Promise p) (sought.Promise r) = grind (arith, nat_tests)
same_key (sought.Promise p) (sought.Object l) = grind (arith, nat_tests)
same_key (sought.Promise p) (sought.PathOf n) = grind (arith, nat_tests)
same_key (sought.Object k) (sought.Import j) = grind (arith, nat_tests)
same_key (sought.Object k) (sought.Promise r) = grind (arith, nat_tests)
same_key (sought.Object k) (sought.Object l) = grind (arith, nat_tests)
same_key (sought.Object k) (sought.PathOf n) = grind (arith, nat_tests)
same_key (sought.PathOf q) (sought.Import j) = grind (arith, nat_tests)
same_key (sought.PathOf q) (sought.Promise r) = grind (arith, nat_tests)
same_key (sought.PathOf q) (sought.Object l) = grind (arith, nat_tests)
same_key (sought.PathOf q) (sought.PathOf n) = grind (arith, nat_tests)

-- ---- what is named by capabilities
pub sought_named : (s : Sought) (cap : Cap) → is_sought s cap ≡ is_named s (named_by cap)
sought_named (sought.Import i) caps.None = refl
sought_named (sought.Import i) (caps.Object k) = refl
sought_named (sought.Import i) (caps.Promise p) = refl
sought_named (sought.Import i) (caps.Import j) = refl
sought_named (sought.Import i) (caps.Pipelined q path) = refl
sought_named (sought.Import i) (caps.Broken exception) = refl
sought_named (sought.Promise p) caps.None = refl
sought_named (sought.Promise p) (caps.Object k) = refl
sought_named (sought.Promise p) (caps.Promise q) = refl
sought_named (sought.Promise p) (caps.Import j) = refl
sought_named (sought.Promise p) (caps.Pipelined q path) = refl
sought_named (sought.Promise p) (caps.Broken exception) = refl
sought_named (sought.Object k) caps.None = refl
sought_named (sought.Object k) (caps.Object j) = refl
sought_named (sought.Object k) (caps.Promise p) = refl
sought_named (sought.Object k) (caps.Import i) = refl
sought_named (sought.Object k) (caps.Pipelined q path) = refl
sought_named (sought.Object k) (caps.Broken exception) = refl
sought_named (sought.PathOf q) caps.None = refl
sought_named (sought.PathOf q) (caps.Object k) = refl
sought_named (sought.PathOf q) (caps.Promise p) = refl
sought_named (sought.PathOf q) (caps.Import j) = refl
sought_named (sought.PathOf q) (caps.Pipelined p path) = refl
sought_named (sought.PathOf q) (caps.Broken exception) = refl

pub times_more : (cs : List Cap) (i : ℕ) (d : Cap) (s : Sought) → i < length cs
    → times_in (take (i + 1) cs) s ≡ times_in (take i cs) s + times_named (named_by (get_or cs i d)) s
times_more cs i d s inside = rw (← sought_named s (get_or cs i d)) (sum_by_more (λ cap. once (is_sought s cap)) cs i d inside)
