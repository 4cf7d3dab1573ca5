-- Marks under embargoes: what each call of `Marks` keeps.
use Rattle.std.proofs.Common.{◌≡◌, ◌≢◌, IsSome, ℕ, Bool, true, false, cond, not, is_some, List, [], ◌∷◌, Option, Some, None, true≢false, inl, inr, refl, sym, ap, ◌∙◌, subst, arith}
use Rattle.std.specs.Prelude.{◌==◌}
use Rattle.std.specs.declared.cmp.Ordering.{Ordering}
use Rattle.std.specs.declared.cmp.Ordering.TheVariants.{Equal}
use Rattle.std.proofs.lemmas.Bool.{cases_eq}
use Rattle.std.proofs.lemmas.Bool.Decides.{nat_tests}
use Rattle.std.specs.Ordering.{nat_cmp, eq_by_cmp, is_eq}
use Rattle.std.specs.Cmp.{IsTotalOrder, tied_itself, nat_cmp_total}
use Rattle.std.specs.Cmp.Lexicographic.{slice_cmp, nat_list_cmp_total}
use Rattle.std.specs.FinMap.{FinMap, IsAntisymmetric, get, insert, remove, empty, get-empty, get-insert, get-remove, retain_keys, get-retain_keys, same_map, slice_cmp-IsAntisymmetric, nat_cmp-IsAntisymmetric}
use Rattle.cp_tables.specs.Table.{Table}
use Rattle.cp_tables.proofs.TableLemmas.{get-insert_same, get-insert_other, get-remove_same, get-remove_other}
use Rattle.cp_refs.specs.declared.cap.Cap.{Cap}
use Rattle.cp_refs.specs.declared.cap.Cap.TheVariants as caps
use Rattle.cp_vat_machine.specs.State.{State, Marks, new_state}
use Rattle.cp_vat_machine.specs.Calling.{mark_of}
use Rattle.cp_vat_machine.specs.Give.{is_path_of}
use Rattle.cp_vat_machine.specs.Resolving.{is_under}
use Rattle.cp_vat_state.proofs.Fields.{tied as path_tied}
use Rattle.cp_vat_state.specs.Paths.{Marked}
use Rattle.cp_vat_state.specs.Under.{unmarked}
use Rattle.cp_vat_state.specs.Marking.{AreUnder, with_marks}
use Rattle.cp_vat_state.specs.declared.marks.MarkKey.{MarkKey}
use Rattle.cp_vat_state.specs.declared.marks.MarkKey.TheVariants as references

same_number : (m n : ℕ) → (m == n) ≡ true → m ≡ n
same_number m n t = grind (arith, nat_tests)

other_number : (m n : ℕ) → (m == n) ≡ false → m ≢ n
other_number m n t = grind (arith, nat_tests)

-- what is under an embargo
under-is : (n : ℕ) (o : Option (Option ℕ)) → is_under n o ≡ true → o ≡ Some (Some n)
under-is n None t = absurd (true≢false (sym t))
under-is n (Some None) t = absurd (true≢false (sym t))
under-is n (Some (Some m)) t = ap (λ k. Some (Some k)) (same_number m n t)

module _ {K : Type 0} {R : K → K → Ordering} (total : IsTotalOrder R) (anti : IsAntisymmetric R) (n : ℕ) (marks : FinMap R (Option ℕ)) where
  -- the marks that aren't under the embargo
  abbrev pub others : FinMap R (Option ℕ)
  others = retain_keys marks (λ k. not (is_under n (get marks k)))

  pub get-others : (q : K) → get others q ≡ cond (not (is_under n (get marks q))) (get marks q) None
  get-others q = get-retain_keys marks (λ k. not (is_under n (get marks k))) q (λ x tie. ap (λ y. not (is_under n (get marks y))) (sym (anti q x tie)))

  kept_if : (b : Bool) (o : Option (Option ℕ)) → (b ≡ true → ⊥) → o ≡ cond (not b) o None
  kept_if true o h = absurd (h refl)
  kept_if false o h = refl

  none_under : ((q : K) → is_under n (get marks q) ≡ true → ⊥) → marks ≡ others
  none_under none = same_map total anti marks others (λ q. kept_if (is_under n (get marks q)) (get marks q) (none q) ∙ sym (get-others q))

  either : (a b : Bool) (o : Option (Option ℕ)) → (b ≡ true → a ≡ true) → (a ≡ true → b ≡ true) → cond a None o ≡ cond (not b) o None
  either true true o to from = refl
  either true false o to from = absurd (true≢false (sym (from refl)))
  either false true o to from = absurd (true≢false (sym (to refl)))
  either false false o to from = refl

  tied : (r : Ordering) → is_eq r ≡ true → r ≡ Equal
  tied Ordering.Less t = absurd (true≢false (sym t))
  tied Ordering.Equal t = refl
  tied Ordering.Greater t = absurd (true≢false (sym t))

  one_under : (k : K) → is_under n (get marks k) ≡ true → ((q : K) → is_under n (get marks q) ≡ true → q ≡ k) → remove marks k ≡ others
  one_under k here alone =
      same_map total anti (remove marks k) others (λ q.
      get-remove total marks k q
      ∙ either (eq_by_cmp R q k) (is_under n (get marks q)) (get marks q)
      (λ t. ap (λ x. eq_by_cmp R x k) (alone q t) ∙ ap is_eq (tied_itself total k))
      (λ t. ap (λ x. is_under n (get marks x)) (anti q k (tied (R q k) t)) ∙ here)
      ∙ sym (get-others q))

  -- where one key alone may be under the embargo, without its mark none is
  pub unmarked-others : (k : K) → ((q : K) → is_under n (get marks q) ≡ true → q ≡ k) → unmarked marks k n ≡ others
  unmarked-others k alone = by_test (is_under n (get marks k)) refl
    where
      by_test : (b : Bool) → is_under n (get marks k) ≡ b → cond b (remove marks k) marks ≡ others
      by_test true t = one_under k t alone
      by_test false t = none_under (λ q under. true≢false (sym (ap (λ x. is_under n (get marks x)) (sym (alone q under)) ∙ under) ∙ t))

  -- where none is under the embargo
  pub same-others : ((q : K) → is_under n (get marks q) ≡ true → ⊥) → marks ≡ others
  same-others = none_under

-- ---- what an embargo leads back to
abbrev number_in : Option (Option ℕ) → ℕ
number_in (Some (Some n)) = n
number_in other = 0

abbrev reference_to : List ℕ → MarkKey
reference_to [] = references.Import 0
reference_to (q ∷ p) = references.Path q p

abbrev import_in : Option MarkKey → ℕ
import_in (Some (references.Import i)) = i
import_in other = 0

abbrev key_in : Option MarkKey → List ℕ
key_in (Some (references.Path q p)) = q ∷ p
key_in other = []

abbrev is_import_in : Option MarkKey → Bool
is_import_in (Some (references.Path q p)) = false
is_import_in other = true

no_mark : {X : Type 0} (o : Option X) (x : X) → o ≡ None → o ≡ Some x → ⊥
no_mark o x none there = true≢false (sym (ap is_some (sym none ∙ there)))

kept_mark : (b : Bool) (o : Option (Option ℕ)) (m : ℕ) → cond (not b) o None ≡ Some (Some m) → (b ≡ false) × (o ≡ Some (Some m))
kept_mark true o m h = absurd (no_mark None (Some m) refl h)
kept_mark false o m h = (refl, h)

abbrev value_in : Option (Option ℕ) → Option ℕ
value_in None = None
value_in (Some x) = x

new_mark : (b : Bool) (o : Option (Option ℕ)) (m : ℕ) → cond b (Some None) o ≡ Some (Some m) → o ≡ Some (Some m)
new_mark true o m h = absurd (no_mark None m refl (ap (λ o. value_in o) h))
new_mark false o m h = h

left_mark : (b : Bool) (o : Option (Option ℕ)) (m : ℕ) → cond b None o ≡ Some (Some m) → o ≡ Some (Some m)
left_mark true o m h = absurd (no_mark None (Some m) refl h)
left_mark false o m h = h

none_left : (b : Bool) (o : Option (Option ℕ)) → o ≡ None → cond b None o ≡ None
none_left true o h = refl
none_left false o h = h

pub under-empty : AreUnder empty empty empty empty
under-empty =
    record {
      imports_led = λ i n h. absurd (no_mark _ (Some n) (get-empty nat_cmp i) h);
      paths_led = λ q p n h. absurd (no_mark _ (Some n) (get-empty (slice_cmp nat_cmp) (q ∷ p)) h);
      paths_named = get-empty (slice_cmp nat_cmp) [];
      open_led = λ n h. get-empty nat_cmp n;
    }

module _ (imports : Table (Option ℕ)) (paths : Marked) (embargoes : Table Cap) (back : Table MarkKey) (are : AreUnder imports paths embargoes back) where
  -- an embargo that leads back to an import
  pub import-alone : (n i : ℕ) → get back n ≡ Some (references.Import i) → (q : ℕ) → is_under n (get imports q) ≡ true → q ≡ i
  import-alone n i is q under = ap (λ o. import_in o) (sym (are.imports_led q n (under-is n (get imports q) under)) ∙ is)

  pub no-path : (n : ℕ) → is_import_in (get back n) ≡ true → (key : List ℕ) → is_under n (get paths key) ≡ true → ⊥
  no-path n is [] under = true≢false (sym (ap (λ o. is_under n o) (sym are.paths_named) ∙ under))
  no-path n is (q ∷ p) under = true≢false (sym is ∙ ap (λ o. is_import_in o) (are.paths_led q p n (under-is n (get paths (q ∷ p)) under)))

  -- an embargo that leads back to a path
  pub path-alone : (n : ℕ) (q : ℕ) (p : List ℕ) → get back n ≡ Some (references.Path q p) → (key : List ℕ) → is_under n (get paths key) ≡ true → key ≡ q ∷ p
  path-alone n q p is [] under = absurd (true≢false (sym (ap (λ o. is_under n o) (sym are.paths_named) ∙ under)))
  path-alone n q p is (k ∷ r) under = ap (λ o. key_in o) (sym (are.paths_led k r n (under-is n (get paths (k ∷ r)) under)) ∙ is)

  pub no-import-by : (n : ℕ) → ((i : ℕ) → get back n ≡ Some (references.Import i) → ⊥) → (q : ℕ) → is_under n (get imports q) ≡ true → ⊥
  no-import-by n isnt q under = isnt q (are.imports_led q n (under-is n (get imports q) under))

  -- an embargo ends
  pub under-ended : (n : ℕ) → AreUnder (retain_keys imports (λ i. not (is_under n (get imports i)))) (retain_keys paths (λ key. not (is_under n (get paths key)))) (remove embargoes n) (remove back n)
  under-ended n =
      record {
        imports_led =
            λ i m h. let kept = kept_mark (is_under n (get imports i)) (get imports i) m (sym (get-others nat_cmp_total nat_cmp-IsAntisymmetric n imports i) ∙ h) in
            get-remove_other back n m (other_number m n (ap (λ o. is_under n o) (sym kept.1) ∙ kept.0)) ∙ are.imports_led i m kept.1;
        paths_led =
            λ q p m h. let kept = kept_mark (is_under n (get paths (q ∷ p))) (get paths (q ∷ p)) m (sym (get-others nat_list_cmp_total (slice_cmp-IsAntisymmetric nat_cmp-IsAntisymmetric) n paths (q ∷ p)) ∙ h) in
            get-remove_other back n m (other_number m n (ap (λ o. is_under n o) (sym kept.1) ∙ kept.0)) ∙ are.paths_led q p m kept.1;
        paths_named = get-others nat_list_cmp_total (slice_cmp-IsAntisymmetric nat_cmp-IsAntisymmetric) n paths [] ∙ ap (λ o. cond (not (is_under n o)) o None) are.paths_named;
        open_led =
            λ m h. elim (cases_eq m n) [
              | inl same ↦ ap (λ k. get (remove back n) k) same ∙ get-remove_same back n
              | inr other ↦ get-remove_other back n m other ∙ are.open_led m (sym (get-remove_other embargoes n m other) ∙ h)
            ];
      }

  -- an import's mark goes
  pub under-import-gone : (i : ℕ) → AreUnder (remove imports i) paths embargoes back
  under-import-gone i =
      record {
        imports_led =
            λ j n h. elim (cases_eq j i) [
              | inl same ↦ absurd (no_mark _ (Some n) (ap (λ k. get (remove imports i) k) same ∙ get-remove_same imports i) h)
              | inr other ↦ are.imports_led j n (sym (get-remove_other imports i j other) ∙ h)
            ];
        paths_led = are.paths_led;
        paths_named = are.paths_named;
        open_led = are.open_led;
      }

  -- the marks of a question's paths go
  pub under-question-gone : (q : ℕ) → AreUnder imports (retain_keys paths (λ key. not (is_path_of q key))) embargoes back
  under-question-gone q =
      record {
        imports_led = are.imports_led;
        paths_led = λ k p n h. are.paths_led k p n (kept_mark (k == q) (get paths (k ∷ p)) n (sym (retained (k ∷ p)) ∙ h)).1;
        paths_named = retained [] ∙ are.paths_named;
        open_led = are.open_led;
      }
    where
      retained : (key : List ℕ) → get (retain_keys paths (λ key. not (is_path_of q key))) key ≡ cond (not (is_path_of q key)) (get paths key) None
      retained key = get-retain_keys paths (λ key. not (is_path_of q key)) key (λ x tie. ap (λ y. not (is_path_of q y)) (sym (slice_cmp-IsAntisymmetric nat_cmp-IsAntisymmetric key x tie)))

  -- a reference is marked
  pub under-import-marked : (i : ℕ) → AreUnder (insert imports i None) paths embargoes back
  under-import-marked i =
      record {
        imports_led = λ j n h. are.imports_led j n (new_mark (eq_by_cmp nat_cmp j i) (get imports j) n (sym (get-insert nat_cmp_total imports i None j) ∙ h));
        paths_led = are.paths_led;
        paths_named = are.paths_named;
        open_led = are.open_led;
      }

  pub under-path-marked : (q : ℕ) (p : List ℕ) → AreUnder imports (insert paths (q ∷ p) None) embargoes back
  under-path-marked q p =
      record {
        imports_led = are.imports_led;
        paths_led =
            λ k r n h. are.paths_led k r n (new_mark (eq_by_cmp (slice_cmp nat_cmp) (k ∷ r) (q ∷ p)) (get paths (k ∷ r)) n (sym (get-insert nat_list_cmp_total paths (q ∷ p) None (k ∷ r)) ∙ h));
        paths_named = get-insert nat_list_cmp_total paths (q ∷ p) None [] ∙ are.paths_named;
        open_led = are.open_led;
      }

  -- a path's mark goes
  pub under-path-gone : (key : List ℕ) → AreUnder imports (remove paths key) embargoes back
  under-path-gone key =
      record {
        imports_led = are.imports_led;
        paths_led = λ k r n h. are.paths_led k r n (left_mark (eq_by_cmp (slice_cmp nat_cmp) (k ∷ r) key) (get paths (k ∷ r)) n (sym (get-remove nat_list_cmp_total paths key (k ∷ r)) ∙ h));
        paths_named = get-remove nat_list_cmp_total paths key [] ∙ none_left (eq_by_cmp (slice_cmp nat_cmp) [] key) (get paths []) are.paths_named;
        open_led = are.open_led;
      }

  -- ---- an embargo is opened
  pub under-embargo : (n : ℕ) (value : Cap) → AreUnder imports paths (insert embargoes n value) back
  under-embargo n value =
      record {
        imports_led = are.imports_led;
        paths_led = are.paths_led;
        paths_named = are.paths_named;
        open_led =
            λ m h. elim (cases_eq m n) [
              | inl same ↦ absurd (no_mark _ value h (ap (λ k. get (insert embargoes n value) k) same ∙ get-insert_same embargoes n value))
              | inr other ↦ are.open_led m (sym (get-insert_other embargoes n m value other) ∙ h)
            ];
      }

  module _ (n : ℕ) (value : Cap) (free : get embargoes n ≡ None) where
    -- what leads back otherwise than the new embargo leads back as before
    led_before : (m : ℕ) (r s : MarkKey) → get back m ≡ Some r → get (insert back n s) m ≡ Some r
    led_before m r s is = get-insert_other back n m s (λ same. no_mark _ r (are.open_led n free) (ap (λ k. get back k) (sym same) ∙ is)) ∙ is

    opened : (s : MarkKey) (m : ℕ) → get (insert embargoes n value) m ≡ None → get (insert back n s) m ≡ None
    opened s m h =
        elim (cases_eq m n) [
          | inl same ↦ absurd (no_mark _ value h (ap (λ k. get (insert embargoes n value) k) same ∙ get-insert_same embargoes n value))
          | inr other ↦ get-insert_other back n m s other ∙ are.open_led m (sym (get-insert_other embargoes n m value other) ∙ h)
        ]

    -- for an import
    pub under-import-opened : (i : ℕ) → AreUnder (insert imports i (Some n)) paths (insert embargoes n value) (insert back n (references.Import i))
    under-import-opened i =
        record {
          imports_led =
              λ j m h. elim (cases_eq j i) [
                | inl same ↦
                    let is : n ≡ m = ap (λ o. number_in o) (sym (ap (λ k. get (insert imports i (Some n)) k) same ∙ get-insert_same imports i (Some n)) ∙ h) in
                    ap (λ k. get (insert back n (references.Import i)) k) (sym is) ∙ get-insert_same back n (references.Import i) ∙ ap (λ k. Some (references.Import k)) (sym same)
                | inr other ↦ led_before m (references.Import j) (references.Import i) (are.imports_led j m (sym (get-insert_other imports i j (Some n) other) ∙ h))
              ];
          paths_led = λ q p m h. led_before m (references.Path q p) (references.Import i) (are.paths_led q p m h);
          paths_named = are.paths_named;
          open_led = opened (references.Import i);
        }

    -- for a question's path
    pub under-path-opened : (q : ℕ) (p : List ℕ) → AreUnder imports (insert paths (q ∷ p) (Some n)) (insert embargoes n value) (insert back n (references.Path q p))
    under-path-opened q p =
        record {
          imports_led = λ j m h. led_before m (references.Import j) (references.Path q p) (are.imports_led j m h);
          paths_led = λ k r m h. by_test k r m (eq_by_cmp (slice_cmp nat_cmp) (k ∷ r) (q ∷ p)) refl (sym (get-insert nat_list_cmp_total paths (q ∷ p) (Some n) (k ∷ r)) ∙ h);
          paths_named = get-insert nat_list_cmp_total paths (q ∷ p) (Some n) [] ∙ are.paths_named;
          open_led = opened (references.Path q p);
        }
      where
        by_test : (k : ℕ) (r : List ℕ) (m : ℕ) (b : Bool) → eq_by_cmp (slice_cmp nat_cmp) (k ∷ r) (q ∷ p) ≡ b → cond b (Some (Some n)) (get paths (k ∷ r)) ≡ Some (Some m) → get (insert back n (references.Path q p)) m ≡ Some (references.Path k r)
        by_test k r m true t h =
            let is : n ≡ m = ap (λ o. number_in o) h in
            let same : k ∷ r ≡ q ∷ p = path_tied (k ∷ r) (q ∷ p) t in
            ap (λ x. get (insert back n (references.Path q p)) x) (sym is) ∙ get-insert_same back n (references.Path q p)
            ∙ ap (λ key. Some (reference_to key)) (sym same)
        by_test k r m false t h = led_before m (references.Path k r) (references.Path q p) (are.paths_led k r m h)

  -- ---- what is left when an embargo ends
  no-import : (n q : ℕ) (p : List ℕ) → get back n ≡ Some (references.Path q p) → (i : ℕ) → is_under n (get imports i) ≡ true → ⊥
  no-import n q p is i under = true≢false (ap (λ o. is_import_in o) (sym (are.imports_led i n (under-is n (get imports i) under)) ∙ is))

  pub import-left : (n i : ℕ) → Some (references.Import i) ≡ get back n → (unmarked imports i n ≡ others nat_cmp_total nat_cmp-IsAntisymmetric n imports) × (paths ≡ others nat_list_cmp_total (slice_cmp-IsAntisymmetric nat_cmp-IsAntisymmetric) n paths)
  import-left n i is = (
    unmarked-others nat_cmp_total nat_cmp-IsAntisymmetric n imports i (import-alone n i (sym is)),
    same-others nat_list_cmp_total (slice_cmp-IsAntisymmetric nat_cmp-IsAntisymmetric) n paths (no-path n (ap (λ o. is_import_in o) (sym is))),
  )

  pub path-left : (n q : ℕ) (p : List ℕ) → Some (references.Path q p) ≡ get back n → (imports ≡ others nat_cmp_total nat_cmp-IsAntisymmetric n imports) × (unmarked paths (q ∷ p) n ≡ others nat_list_cmp_total (slice_cmp-IsAntisymmetric nat_cmp-IsAntisymmetric) n paths)
  path-left n q p is = (
    same-others nat_cmp_total nat_cmp-IsAntisymmetric n imports (no-import n q p (sym is)),
    unmarked-others nat_list_cmp_total (slice_cmp-IsAntisymmetric nat_cmp-IsAntisymmetric) n paths (q ∷ p) (path-alone n q p (sym is)),
  )

  pub none-left : (n : ℕ) → None ≡ get back n → (imports ≡ others nat_cmp_total nat_cmp-IsAntisymmetric n imports) × (paths ≡ others nat_list_cmp_total (slice_cmp-IsAntisymmetric nat_cmp-IsAntisymmetric) n paths)
  none-left n is = (
    same-others nat_cmp_total nat_cmp-IsAntisymmetric n imports (λ i under. no_mark _ (references.Import i) (sym is) (are.imports_led i n (under-is n (get imports i) under))),
    same-others nat_list_cmp_total (slice_cmp-IsAntisymmetric nat_cmp-IsAntisymmetric) n paths (no-path n (ap (λ o. is_import_in o) (sym is))),
  )

  pub under-left : (n : ℕ) (imports' : Table (Option ℕ)) (paths' : Marked) → (imports' ≡ others nat_cmp_total nat_cmp-IsAntisymmetric n imports) × (paths' ≡ others nat_list_cmp_total (slice_cmp-IsAntisymmetric nat_cmp-IsAntisymmetric) n paths) → AreUnder imports' paths' (remove embargoes n) (remove back n)
  under-left n imports' paths' left =
      let F : Table (Option ℕ) → Type 0 = λ i. AreUnder i paths' (remove embargoes n) (remove back n) in
      let G : Marked → Type 0 = λ p. AreUnder (others nat_cmp_total nat_cmp-IsAntisymmetric n imports) p (remove embargoes n) (remove back n) in
      subst F (sym left.0) (subst G (sym left.1) (under-ended n))

-- marks with the same parts
pub same_parts : (i j : Table (Option ℕ)) (p r : Marked) (embargoes : Table Cap) → (i ≡ j) × (p ≡ r) → ◌≡◌ {A = Marks} (record { imports = i; paths = p; embargoes = embargoes }) (record { imports = j; paths = r; embargoes = embargoes })
same_parts i j p r embargoes same = λ k. record { imports = same.0 k; paths = same.1 k; embargoes = embargoes }

-- ---- what is known of a reference's mark
is_none_there : {X : Type 0} (o : Option X) → is_some o ≡ false → o ≡ None
is_none_there None e = refl
is_none_there (Some x) e = absurd (true≢false e)

pub unmarked-path : (marks : Marks) (reference : Cap) (r : Option (Option ℕ)) (b : Bool) (q : ℕ) (p : List ℕ) → ((s : State) → r ≡ mark_of (with_marks s marks) reference) → reference ≡ caps.Pipelined q p → b ≡ is_some r → b ≡ false → get marks.paths (q ∷ p) ≡ None
unmarked-path marks reference r b q p told is test none =
    is_none_there (get marks.paths (q ∷ p)) (ap is_some (sym (told (new_state None) ∙ ap (λ c. mark_of (with_marks (new_state None) marks) c) is)) ∙ sym test ∙ none)

pub marked-import : (marks : Marks) (reference : Cap) (i : ℕ) → ((s : State) → IsSome (mark_of (with_marks s marks) reference)) → reference ≡ caps.Import i → IsSome (get marks.imports i)
marked-import marks reference i told is = ap (λ c. is_some (mark_of (with_marks (new_state None) marks) c)) (sym is) ∙ told (new_state None)

pub marked-path : (marks : Marks) (reference : Cap) (q : ℕ) (p : List ℕ) → ((s : State) → IsSome (mark_of (with_marks s marks) reference)) → reference ≡ caps.Pipelined q p → IsSome (get marks.paths (q ∷ p))
marked-path marks reference q p told is = ap (λ c. is_some (mark_of (with_marks (new_state None) marks) c)) (sym is) ∙ told (new_state None)

-- nothing is there where no mark is
pub none_marked : (o : Option (Option ℕ)) (r : Option (Option ℕ)) (b : Bool) → r ≡ o → b ≡ is_some r → b ≡ false → o ≡ None
none_marked o r b is test none = is_none_there o (ap is_some (sym is) ∙ sym test ∙ none)

pub some_marked : (o : Option (Option ℕ)) (r : Option (Option ℕ)) (b : Bool) → r ≡ o → b ≡ is_some r → b ≡ true → IsSome o
some_marked o r b is test some = ap is_some (sym is) ∙ sym test ∙ some

-- ---- a mark that is taken back
equal_by : (r : Ordering) → is_eq r ≡ true → r ≡ Equal
equal_by Ordering.Less t = absurd (true≢false (sym t))
equal_by Ordering.Equal t = refl
equal_by Ordering.Greater t = absurd (true≢false (sym t))

module _ {X : Type 0} {R : X → X → Ordering} (total : IsTotalOrder R) (anti : IsAntisymmetric R) {Y : Type 0} (marks : FinMap R Y) where
  -- to take out what isn't there changes nothing
  pub gone-none : (key : X) → get marks key ≡ None → remove marks key ≡ marks
  gone-none key none = same_map total anti _ _ (λ q. get-remove total marks key q ∙ at q (eq_by_cmp R q key) refl)
    where
      at : (q : X) (b : Bool) → eq_by_cmp R q key ≡ b → cond b None (get marks q) ≡ get marks q
      at q true tie = sym (ap (get marks) (anti q key (equal_by (R q key) tie)) ∙ none)
      at q false tie = refl

  -- so what is put and taken out again
  pub put-gone : (key : X) (y : Y) → get marks key ≡ None → remove (insert marks key y) key ≡ marks
  put-gone key y none = same_map total anti _ _ (λ q. get-remove total (insert marks key y) key q ∙ at q (eq_by_cmp R q key) refl)
    where
      at : (q : X) (b : Bool) → eq_by_cmp R q key ≡ b → cond b None (get (insert marks key y) q) ≡ get marks q
      at q true tie = sym (ap (get marks) (anti q key (equal_by (R q key) tie)) ∙ none)
      at q false tie = get-insert total marks key y q ∙ ap (λ b. cond b (Some y) (get marks q)) tie
