-- Marks of paths, kept with their questions and seen as one finite map.
use Rattle.std.proofs.Common.{◌≡◌, ◌≢◌, IsSome, ℕ, zero, suc, ◌+◌, ◌≤◌, Bool, true, false, cond, is_some, List, [], ◌∷◌, Option, Some, None, Result, Ok, Err, OnErr, true≢false, inl, inr, refl, sym, ap, ◌∙◌, arith}
use Rattle.std.specs.Prelude.{T, ◌&&◌, ◌-◌, ◌==◌, not, length}
use Rattle.std.specs.declared.cmp.Ordering.{Ordering}
use Rattle.std.specs.declared.cmp.Ordering.TheVariants.{Less, Equal, Greater}
use Rattle.std.proofs.lemmas.Bool.{cases_eq}
use Rattle.std.proofs.lemmas.Bool.Decides.{nat_tests}
use Rattle.std.specs.Ordering.{nat_cmp, eq_by_cmp, is_eq, is_lt, ordering_then}
use Rattle.std.specs.Cmp.{tied_itself, nat_cmp_total}
use Rattle.std.specs.Cmp.Lexicographic.{slice_cmp, nat_list_cmp_total}
use Rattle.std.specs.FinMap.{find, get, insert, remove, empty, empty_of_len, entries, entries_sorted, len, len-insert, len-remove, len-empty, get-empty, get-entries, from_entries, get-from_entries, len-entries, retain_keys, get-retain_keys, get-insert, get-remove, same_map, slice_cmp-IsAntisymmetric, nat_cmp-IsAntisymmetric}
use Rattle.std.specs.FinMap.Entries.{below_all, is_sorted}
use Rattle.cp_tables.specs.Table.{Table}
use Rattle.cp_tables.proofs.TableLemmas.{get-insert_same, get-insert_other, get-remove_same, get-remove_other, is_insert}
use Rattle.cp_refs.proofs.Queueing.{remove-none}
use Rattle.cp_refs.proofs.Sums.{number_ties, number_differs, left_true, right_true, below_differs}
use Rattle.cp_vat_machine.specs.Give.{is_path_of}
use Rattle.cp_vat_state.specs.Paths.{Marked}
use Rattle.cp_vat_state.specs.Joined.{put_all, joined_from, joined, IsCounted}
use Rattle.cp_vat_state.proofs.Fields.{S, tied}

-- ---- keys
false_unless : (b : Bool) → (b ≡ true → ⊥) → b ≡ false
false_unless true h = absurd (h refl)
false_unless false h = refl

tie_same : (q : ℕ) (p r : List ℕ) → is_eq (S (q ∷ p) (q ∷ r)) ≡ is_eq (S p r)
tie_same q p r = ap (λ o. is_eq (ordering_then o (S p r))) (tied_itself nat_cmp_total q)

abbrev first : ℕ → List ℕ → ℕ
first n [] = n
first n (k ∷ p) = k

tie_other : (k q : ℕ) (p r : List ℕ) → k ≢ q → is_eq (S (k ∷ p) (q ∷ r)) ≡ false
tie_other k q p r other = false_unless _ (λ t. other (ap (first 0) (tied (k ∷ p) (q ∷ r) t)))

-- ---- one question's marks, with those of others
get-put_all_other : (k q : ℕ) (p : List ℕ) (es : List (List ℕ × Option ℕ)) (m : Marked) → k ≢ q → get (put_all q es m) (k ∷ p) ≡ get m (k ∷ p)
get-put_all_other k q p [] m other = refl
get-put_all_other k q p (e ∷ es) m other =
    get-insert nat_list_cmp_total (put_all q es m) (q ∷ e.0) e.1 (k ∷ p)
    ∙ ap (λ b. cond b (Some e.1) (get (put_all q es m) (k ∷ p))) (tie_other k q p e.0 other) ∙ get-put_all_other k q p es m other

get-put_all_none : (q : ℕ) (es : List (List ℕ × Option ℕ)) (m : Marked) → get (put_all q es m) [] ≡ get m []
get-put_all_none q [] m = refl
get-put_all_none q (e ∷ es) m = get-insert nat_list_cmp_total (put_all q es m) (q ∷ e.0) e.1 [] ∙ get-put_all_none q es m

get-put_all_same : (q : ℕ) (p : List ℕ) (es : List (List ℕ × Option ℕ)) (m : Marked) → get m (q ∷ p) ≡ None → get (put_all q es m) (q ∷ p) ≡ find (slice_cmp nat_cmp) p es
get-put_all_same q p [] m none = none
get-put_all_same q p (e ∷ es) m none =
    get-insert nat_list_cmp_total (put_all q es m) (q ∷ e.0) e.1 (q ∷ p)
    ∙ ap (λ b. cond b (Some e.1) (get (put_all q es m) (q ∷ p))) (tie_same q p e.0) ∙ ap (cond (is_eq (S p e.0)) (Some e.1)) (get-put_all_same q p es m none)

-- ---- all questions' marks
-- what a question has at a path
abbrev pub at_path : Option Marked → List ℕ → Option (Option ℕ)
at_path None p = None
at_path (Some marks) p = get marks p

pub find-below : {X : Type 0} (q : ℕ) (es : List (ℕ × X)) → T (below_all nat_cmp q es) → find nat_cmp q es ≡ None
find-below q [] h = refl
find-below q (e ∷ es) h =
    ap (λ b. cond b (Some e.1) (find nat_cmp q es)) (below_differs (nat_cmp q e.0) (left_true _ _ h)) ∙ find-below q es (right_true (is_lt (nat_cmp q e.0)) _ h)

get-joined_from : (es : List (ℕ × Marked)) → T (is_sorted nat_cmp es) → (q : ℕ) (p : List ℕ) → get (joined_from es) (q ∷ p) ≡ at_path (find nat_cmp q es) p
get-joined_from [] sorted q p = get-empty (slice_cmp nat_cmp) (q ∷ p)
get-joined_from (e ∷ es) sorted q p =
    elim (cases_eq q e.0) [
      | inl same ↦
          let none = get-joined_from es (right_true (below_all nat_cmp e.0 es) _ sorted) e.0 p ∙ ap (λ o. at_path o p) (find-below e.0 es (left_true _ _ sorted)) in
          ap (λ k. get (joined_from (e ∷ es)) (k ∷ p)) same ∙ get-put_all_same e.0 p (entries e.1) (joined_from es) none ∙ sym (get-entries e.1 p)
          ∙ sym (ap (λ b. at_path (cond b (Some e.1) (find nat_cmp q es)) p) (number_ties q e.0 same))
      | inr other ↦
          get-put_all_other q e.0 p (entries e.1) (joined_from es) other ∙ get-joined_from es (right_true (below_all nat_cmp e.0 es) _ sorted) q p
          ∙ sym (ap (λ b. at_path (cond b (Some e.1) (find nat_cmp q es)) p) (number_differs q e.0 other))
    ]

get-joined_from_none : (es : List (ℕ × Marked)) → get (joined_from es) [] ≡ None
get-joined_from_none [] = get-empty (slice_cmp nat_cmp) []
get-joined_from_none (e ∷ es) = get-put_all_none e.0 (entries e.1) (joined_from es) ∙ get-joined_from_none es

module _ (t : Table Marked) where
  pub get-joined : (q : ℕ) (p : List ℕ) → get (joined t) (q ∷ p) ≡ at_path (get t q) p
  get-joined q p = get-joined_from (entries t) (entries_sorted t) q p ∙ sym (ap (λ o. at_path o p) (get-entries t q))

  pub get-joined_none : get (joined t) [] ≡ None
  get-joined_none = get-joined_from_none (entries t)

-- two maps of marks that have the same at each path of each question
pub same_marks : (m n : Marked) → get m [] ≡ get n [] → ((q : ℕ) (p : List ℕ) → get m (q ∷ p) ≡ get n (q ∷ p)) → m ≡ n
same_marks m n bare at = same_map nat_list_cmp_total (slice_cmp-IsAntisymmetric nat_cmp-IsAntisymmetric) m n by_key
  where
    by_key : (key : List ℕ) → get m key ≡ get n key
    by_key [] = bare
    by_key (q ∷ p) = at q p

-- the marks of a question, none where it isn't there
abbrev pub marks_in : Option Marked → Marked
marks_in None = empty
marks_in (Some marks) = marks

at-marks_in : (o : Option Marked) (p : List ℕ) → at_path o p ≡ get (marks_in o) p
at-marks_in None p = sym (get-empty (slice_cmp nat_cmp) p)
at-marks_in (Some marks) p = refl

module _ (t : Table Marked) (q : ℕ) where
  -- a mark that is put in
  pub joined-insert : (marks : Marked) (p : List ℕ) (x : Option ℕ) → marks ≡ insert (marks_in (get t q)) p x → joined (insert t q marks) ≡ insert (joined t) (q ∷ p) x
  joined-insert marks p x is =
      same_marks _ _ (get-joined_none (insert t q marks) ∙ sym (get-insert nat_list_cmp_total (joined t) (q ∷ p) x [] ∙ get-joined_none t))
      (λ k r. elim (cases_eq k q) [
        | inl same ↦
            get-joined (insert t q marks) k r ∙ ap (λ n. at_path (get (insert t q marks) n) r) same ∙ ap (λ o. at_path o r) (get-insert_same t q marks)
            ∙ ap (λ m. get m r) is ∙ get-insert nat_list_cmp_total (marks_in (get t q)) p x r
            ∙ ap (cond (is_eq (S r p)) (Some x)) (sym (at-marks_in (get t q) r) ∙ sym (get-joined t q r))
            ∙ sym (ap (λ n. get (insert (joined t) (q ∷ p) x) (n ∷ r)) same ∙ get-insert nat_list_cmp_total (joined t) (q ∷ p) x (q ∷ r)
            ∙ ap (λ b. cond b (Some x) (get (joined t) (q ∷ r))) (tie_same q r p))
        | inr other ↦
            get-joined (insert t q marks) k r ∙ ap (λ o. at_path o r) (get-insert_other t q k marks other) ∙ sym (get-joined t k r)
            ∙ sym (get-insert nat_list_cmp_total (joined t) (q ∷ p) x (k ∷ r) ∙ ap (λ b. cond b (Some x) (get (joined t) (k ∷ r))) (tie_other k q r p other))
      ])

  -- a mark that is taken out
  pub joined-remove : (old marks : Marked) (p : List ℕ) → get t q ≡ Some old → marks ≡ remove old p → joined (insert t q marks) ≡ remove (joined t) (q ∷ p)
  joined-remove old marks p there is =
      same_marks _ _ (get-joined_none (insert t q marks) ∙ sym (get-remove nat_list_cmp_total (joined t) (q ∷ p) [] ∙ get-joined_none t))
      (λ k r. elim (cases_eq k q) [
        | inl same ↦
            get-joined (insert t q marks) k r ∙ ap (λ n. at_path (get (insert t q marks) n) r) same ∙ ap (λ o. at_path o r) (get-insert_same t q marks)
            ∙ ap (λ m. get m r) is ∙ get-remove nat_list_cmp_total old p r
            ∙ ap (cond (is_eq (S r p)) None) (sym (get-joined t q r ∙ ap (λ o. at_path o r) there))
            ∙ sym (ap (λ n. get (remove (joined t) (q ∷ p)) (n ∷ r)) same ∙ get-remove nat_list_cmp_total (joined t) (q ∷ p) (q ∷ r)
            ∙ ap (λ b. cond b None (get (joined t) (q ∷ r))) (tie_same q r p))
        | inr other ↦
            get-joined (insert t q marks) k r ∙ ap (λ o. at_path o r) (get-insert_other t q k marks other) ∙ sym (get-joined t k r)
            ∙ sym (get-remove nat_list_cmp_total (joined t) (q ∷ p) (k ∷ r) ∙ ap (λ b. cond b None (get (joined t) (k ∷ r))) (tie_other k q r p other))
      ])

-- no marks
pub joined-empty : joined empty ≡ empty
joined-empty = same_marks _ _ (get-joined_none empty ∙ sym (get-empty (slice_cmp nat_cmp) [])) (λ q p. get-joined empty q p ∙ ap (λ o. at_path o p) (get-empty nat_cmp q) ∙ sym (get-empty (slice_cmp nat_cmp) (q ∷ p)))

-- ---- how many
pub len-new : (m : Marked) (key : List ℕ) (x : Option ℕ) → get m key ≡ None → len (insert m key x) ≡ len m + 1
len-new m key x none = len-insert nat_list_cmp_total m key x ∙ ap (λ o. cond (is_some o) (len m) (len m + 1)) none

-- a path before all others isn't found
path-below : (p : List ℕ) (es : List (List ℕ × Option ℕ)) → T (below_all (slice_cmp nat_cmp) p es) → find (slice_cmp nat_cmp) p es ≡ None
path-below p [] h = refl
path-below p (e ∷ es) h =
    ap (λ b. cond b (Some e.1) (find (slice_cmp nat_cmp) p es)) (below_differs (S p e.0) (left_true _ _ h)) ∙ path-below p es (right_true (is_lt (S p e.0)) _ h)

-- a question without marks adds none
joined-bare : (t : Table Marked) (q : ℕ) → get t q ≡ None → joined (insert t q empty) ≡ joined t
joined-bare t q none =
    same_marks _ _ (get-joined_none (insert t q empty) ∙ sym (get-joined_none t))
    (λ k r. elim (cases_eq k q) [
      | inl same ↦
          get-joined (insert t q empty) k r ∙ ap (λ n. at_path (get (insert t q empty) n) r) same ∙ ap (λ o. at_path o r) (get-insert_same t q empty)
          ∙ get-empty (slice_cmp nat_cmp) r ∙ sym (get-joined t k r ∙ ap (λ n. at_path (get t n) r) same ∙ ap (λ o. at_path o r) none)
      | inr other ↦ get-joined (insert t q empty) k r ∙ ap (λ o. at_path o r) (get-insert_other t q k empty other) ∙ sym (get-joined t k r)
    ])

-- a question that is put in again
insert-again : (t : Table Marked) (q : ℕ) (m n : Marked) → insert (insert t q m) q n ≡ insert t q n
insert-again t q m n = is_insert t _ q n (get-insert_same (insert t q m) q n) (λ k other. get-insert_other (insert t q m) q k n other ∙ get-insert_other t q k m other)

-- a question adds as many marks as it has
len-grown : (t : Table Marked) (q : ℕ) → get t q ≡ None → (es : List (List ℕ × Option ℕ)) → T (is_sorted (slice_cmp nat_cmp) es) → len (joined (insert t q (from_entries es))) ≡ len (joined t) + length es
len-grown t q none [] sorted = ap len (joined-bare t q none) ∙ sym (omega arith)
len-grown t q none (e ∷ es) sorted =
    let m : Marked = from_entries es in
    let rest = len-grown t q none es (right_true (below_all (slice_cmp nat_cmp) e.0 es) _ sorted) in
    let more : joined (insert t q (insert m e.0 e.1)) ≡ insert (joined (insert t q m)) (q ∷ e.0) e.1 =
    ap joined (sym (insert-again t q m (insert m e.0 e.1)))
    ∙ joined-insert (insert t q m) q (insert m e.0 e.1) e.0 e.1 (ap (λ o. insert (marks_in o) e.0 e.1) (sym (get-insert_same t q m))) in
    let new : get (joined (insert t q m)) (q ∷ e.0) ≡ None =
    get-joined (insert t q m) q e.0 ∙ ap (λ o. at_path o e.0) (get-insert_same t q m) ∙ get-from_entries nat_list_cmp_total es e.0
    ∙ path-below e.0 es (left_true _ _ sorted) in
    ap len more ∙ len-new (joined (insert t q m)) (q ∷ e.0) e.1 new ∙ omega (arith, rest)

-- marks are those of their entries
same_entries : (m : Marked) → from_entries (entries m) ≡ m
same_entries m = same_map nat_list_cmp_total (slice_cmp-IsAntisymmetric nat_cmp-IsAntisymmetric) _ m (λ p. get-from_entries nat_list_cmp_total (entries m) p ∙ sym (get-entries m p))

-- without a question there are as many marks less
pub len-parted : (t : Table Marked) (q : ℕ) (m : Marked) → get t q ≡ Some m → len (joined t) ≡ len (joined (remove t q)) + len m
len-parted t q m there =
    let back : t ≡ insert (remove t q) q m = is_insert (remove t q) t q m there (λ k other. sym (get-remove_other t q k other)) in
    ap (λ u. len (joined u)) back ∙ ap (λ n. len (joined (insert (remove t q) q n))) (sym (same_entries m))
    ∙ len-grown (remove t q) q (get-remove_same t q) (entries m) (entries_sorted m) ∙ ap (λ n. len (joined (remove t q)) + n) (sym (len-entries m))

kept_or_not : {X : Type 0} (b : Bool) (o : Option X) → b ≡ true → cond (not b) o None ≡ None
kept_or_not true o h = refl
kept_or_not false o h = absurd (true≢false (sym h))

kept : {X : Type 0} (b : Bool) (o : Option X) → b ≡ false → cond (not b) o None ≡ o
kept true o h = absurd (true≢false h)
kept false o h = refl

number_is : (k q : ℕ) → k ≡ q → (k == q) ≡ true
number_is k q h = grind (arith, nat_tests)

number_isnt : (k q : ℕ) → k ≢ q → (k == q) ≡ false
number_isnt k q h = grind (arith, nat_tests)

-- without a question, its paths aren't marked, and all others are as they were
pub joined-without : (t : Table Marked) (q : ℕ) → joined (remove t q) ≡ retain_keys (joined t) (λ key. not (is_path_of q key))
joined-without t q =
    same_marks _ _ (get-joined_none (remove t q) ∙ sym (retained [] ∙ get-joined_none t))
    (λ k r. elim (cases_eq k q) [
      | inl same ↦
          get-joined (remove t q) k r ∙ ap (λ n. at_path (get (remove t q) n) r) same ∙ ap (λ o. at_path o r) (get-remove_same t q)
          ∙ sym (retained (k ∷ r) ∙ kept_or_not (k == q) (get (joined t) (k ∷ r)) (number_is k q same))
      | inr other ↦
          get-joined (remove t q) k r ∙ ap (λ o. at_path o r) (get-remove_other t q k other) ∙ sym (get-joined t k r)
          ∙ sym (retained (k ∷ r) ∙ kept (k == q) (get (joined t) (k ∷ r)) (number_isnt k q other))
    ])
  where
    retained : (key : List ℕ) → get (retain_keys (joined t) (λ key. not (is_path_of q key))) key ≡ cond (not (is_path_of q key)) (get (joined t) key) None
    retained key = get-retain_keys (joined t) (λ key. not (is_path_of q key)) key (λ x tie. ap (λ y. not (is_path_of q y)) (sym (slice_cmp-IsAntisymmetric nat_cmp-IsAntisymmetric key x tie)))

-- to take out a question that isn't there changes nothing
pub remove-absent : (t : Table Marked) (q : ℕ) → get t q ≡ None → remove t q ≡ t
remove-absent t q none = sym (remove-none t q none)

-- ---- what each call of `PathMarks` does, from what it finds at its question
module _ (t : Table Marked) (q : ℕ) (o : Option Marked) (is : o ≡ get t q) where
  pub found-at : (p : List ℕ) → get (joined t) (q ∷ p) ≡ at_path o p
  found-at p = get-joined t q p ∙ ap (λ o. at_path o p) (sym is)

  pub put-in : (marks : Marked) (p : List ℕ) (x : Option ℕ) → marks ≡ insert (marks_in o) p x → joined (insert t q marks) ≡ insert (joined t) (q ∷ p) x
  put-in marks p x put = joined-insert t q marks p x (put ∙ ap (λ o. insert (marks_in o) p x) is)

  pub counted-new : (count : ℕ) (marks : Marked) (p : List ℕ) (x : Option ℕ) → marks ≡ insert (marks_in o) p x → get (joined t) (q ∷ p) ≡ None → IsCounted t count → IsCounted (insert t q marks) (count + 1)
  counted-new count marks p x put none counted = ap (λ n. n + 1) counted ∙ sym (ap len (put-in marks p x put) ∙ len-new (joined t) (q ∷ p) x none)

  pub counted-again : (count : ℕ) (marks : Marked) (p : List ℕ) (x : Option ℕ) → marks ≡ insert (marks_in o) p x → IsSome (get (joined t) (q ∷ p)) → IsCounted t count → IsCounted (insert t q marks) count
  counted-again count marks p x put there counted =
      counted ∙ sym (ap len (put-in marks p x put) ∙ len-insert nat_list_cmp_total (joined t) (q ∷ p) x ∙ ap (λ b. cond b (len (joined t)) (len (joined t) + 1)) there)

-- nothing is at a path of a question that isn't there
pub nothing-at : (t : Table Marked) (q : ℕ) (p : List ℕ) → None ≡ get t q → IsSome (get (joined t) (q ∷ p)) → ⊥
nothing-at t q p is there = true≢false (sym there ∙ ap is_some (found-at t q None is p))

-- what is at a path of a question is in its marks
pub something-at : (t : Table Marked) (q : ℕ) (m : Marked) (p : List ℕ) → Some m ≡ get t q → IsSome (get (joined t) (q ∷ p)) → IsSome (get m p)
something-at t q m p is there = sym (ap is_some (found-at t q (Some m) is p)) ∙ there

-- where a path is marked, one mark is counted at least
pub some-counted : (t : Table Marked) (count : ℕ) (key : List ℕ) → IsCounted t count → IsSome (get (joined t) key) → 1 ≤ count
some-counted t zero key counted there =
    absurd (true≢false (sym there ∙ ap (λ m. is_some (get m key)) (empty_of_len (joined t) (sym counted)) ∙ ap is_some (get-empty (slice_cmp nat_cmp) key)))
some-counted t (suc n) key counted there = omega arith

pub counted-less : (t : Table Marked) (q : ℕ) (m marks : Marked) (p : List ℕ) (count : ℕ) → Some m ≡ get t q → marks ≡ remove m p → IsSome (get (joined t) (q ∷ p)) → IsCounted t count → IsCounted (insert t q marks) (count - 1)
counted-less t q m marks p count is out there counted =
    ap (λ n. n - 1) counted
    ∙ sym (ap len (joined-remove t q m marks p (sym is) out) ∙ len-remove nat_list_cmp_total (joined t) (q ∷ p) ∙ ap (λ b. cond b (len (joined t) - 1) (len (joined t))) there)

pub counted-empty : IsCounted empty 0
counted-empty = sym (ap len joined-empty ∙ len-empty (slice_cmp nat_cmp) (Option ℕ))

-- without a question as many are counted less as it has
pub parted : (t : Table Marked) (q : ℕ) (m : Marked) (count : ℕ) → Some m ≡ get t q → IsCounted t count → count ≡ len (joined (remove t q)) + len m
parted t q m count is counted = counted ∙ len-parted t q m (sym is)

pub counted-parted : (t : Table Marked) (q : ℕ) (m : Marked) (count : ℕ) → Some m ≡ get t q → IsCounted t count → IsCounted (remove t q) (count - len m)
counted-parted t q m count is counted = omega (arith, parted t q m count is counted)

-- what stays as it was, where a call failed
pub same-on-err : {A E X : Type 0} (r : Result A E) (x y : X) → x ≡ y → OnErr r (x ≡ y)
same-on-err (Ok a) x y e = tt
same-on-err (Err a) x y e = e
