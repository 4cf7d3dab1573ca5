-- Ordered maps under keys that have fields, seen as finite maps from the lists of fields.
use Rattle.std.proofs.Common.{◌≡◌, Less, Equal, Greater, IsSome, ℕ, Bool, true, false, cond, List, [], ◌∷◌, map, length, Option, Some, None, true≢false, refl, sym, ap, ◌∙◌, arith}
use Rattle.std.specs.declared.cmp.Ordering.{Ordering}
use Rattle.std.specs.Ordering.{nat_cmp, eq_by_cmp, is_eq, match_ordering}
use Rattle.std.specs.Cmp.Lexicographic.{slice_cmp, nat_list_cmp_total}
use Rattle.std.specs.List.{AllByRecursion}
use Rattle.std.specs.List.Sorted.{IsStrictlySortedBy}
use Rattle.std.specs.Map.{lookup, keys_of, set_value, remove_entry}
use Rattle.std.specs.BTreeMap.{insert_entry, is_at}
use Rattle.std.specs.FinMap.{find, put, get, insert, remove, same_map, get-from_entries, get-insert, get-remove, len, len-empty, len-insert, slice_cmp-IsAntisymmetric, nat_cmp-IsAntisymmetric}
use Rattle.std.specs.FinMap.Entries.{find-put, by_order}
use Rattle.cp_vat_state.specs.Paths.{by_fields}

abbrev pub S : List ℕ → List ℕ → Ordering
S p q = slice_cmp nat_cmp p q

-- ---- ties
is_equal : (r : Ordering) → is_eq r ≡ true → r ≡ Equal
is_equal Less t = absurd (true≢false (sym t))
is_equal Equal t = refl
is_equal Greater t = absurd (true≢false (sym t))

-- only equal paths tie
pub tied : (p q : List ℕ) → is_eq (S p q) ≡ true → p ≡ q
tied p q t = slice_cmp-IsAntisymmetric nat_cmp-IsAntisymmetric p q (is_equal (S p q) t)

-- ---- tests
twice : {X : Type 0} (b : Bool) (x y z : X) → cond b x z ≡ cond b x (cond b y z)
twice true x y z = refl
twice false x y z = refl

swapped : {X : Type 0} (a b : Bool) (x y z : X) → (a ≡ true → b ≡ true → ⊥) → cond a x (cond b y z) ≡ cond b y (cond a x z)
swapped true true x y z apart = absurd (apart refl refl)
swapped true false x y z apart = refl
swapped false b x y z apart = refl

either_none : {X : Type 0} (b : Bool) → ◌≡◌ {A = Option X} None (cond b None None)
either_none true = refl
either_none false = refl

out_if : {X : Type 0} (b : Bool) (x : X) (o : Option X) → (b ≡ true → o ≡ None) → o ≡ cond b None (cond b (Some x) o)
out_if true x o h = h refl
out_if false x o h = refl

module _ {K : Type 0} (f : K → List ℕ) where
  -- entries under their fields
  abbrev pub flat : List (K × Option ℕ) → List (List ℕ × Option ℕ)
  flat es = map (λ e. (f e.0, e.1)) es

  abbrev pub hit : List ℕ → K → Bool
  hit p k = is_at (λ key. S p (f key)) k

  abbrev pub order : K → K → Ordering
  order x y = S (f x) (f y)

  pub get-by_fields : (es : List (K × Option ℕ)) (p : List ℕ) → get (by_fields f es) p ≡ find (slice_cmp nat_cmp) p (flat es)
  get-by_fields es p = get-from_entries nat_list_cmp_total (flat es) p

  -- both look-ups find the first entry that ties
  pub find-lookup : (p : List ℕ) (es : List (K × Option ℕ)) → find (slice_cmp nat_cmp) p (flat es) ≡ lookup (hit p) es
  find-lookup p [] = refl
  find-lookup p (e ∷ es) = ap (cond (hit p e.0) (Some e.1)) (find-lookup p es)

  flat-insert : (es : List (K × Option ℕ)) (k : K) (v : Option ℕ) → flat (insert_entry order es k v) ≡ put (slice_cmp nat_cmp) (f k) v (flat es)
  flat-insert [] k v = refl
  flat-insert (e ∷ es) k v =
      elim (S (f k) (f e.0)) as (λ r. flat (match_ordering r ((k, v) ∷ e ∷ es) ((e.0, v) ∷ es) (e ∷ insert_entry order es k v)) ≡ by_order r ((f k, v) ∷ flat (e ∷ es)) ((f e.0, v) ∷ flat es) ((f e.0, e.1) ∷ put (slice_cmp nat_cmp) (f k) v (flat es))) [
        | Less ↦ refl
        | Equal ↦ refl
        | Greater ↦ ap (λ r. (f e.0, e.1) ∷ r) (flat-insert es k v)
      ]

  -- an entry that is put in
  pub by_fields-insert : (es : List (K × Option ℕ)) (k : K) (v : Option ℕ) → by_fields f (insert_entry order es k v) ≡ insert (by_fields f es) (f k) v
  by_fields-insert es k v =
      same_map nat_list_cmp_total (slice_cmp-IsAntisymmetric nat_cmp-IsAntisymmetric) _ _ (λ q.
      get-by_fields (insert_entry order es k v) q ∙ ap (find (slice_cmp nat_cmp) q) (flat-insert es k v)
      ∙ find-put (slice_cmp nat_cmp) nat_list_cmp_total q (f k) v (flat es)
      ∙ sym (get-insert nat_list_cmp_total (by_fields f es) (f k) v q ∙ ap (cond (eq_by_cmp (slice_cmp nat_cmp) q (f k)) (Some v)) (get-by_fields es q)))

  find-set : (p : List ℕ) (w : Option ℕ) (es : List (K × Option ℕ)) → IsSome (lookup (hit p) es) → (q : List ℕ) → find (slice_cmp nat_cmp) q (flat (set_value (hit p) es w)) ≡ cond (is_eq (S q p)) (Some w) (find (slice_cmp nat_cmp) q (flat es))
  find-set p w [] h q = absurd (true≢false (sym h))
  find-set p w (e ∷ es) h q = by_test (λ there. find-set p w es there q) (hit p e.0) refl h
    where
      by_test : (IsSome (lookup (hit p) es) → find (slice_cmp nat_cmp) q (flat (set_value (hit p) es w)) ≡ cond (is_eq (S q p)) (Some w) (find (slice_cmp nat_cmp) q (flat es))) → (b : Bool) → hit p e.0 ≡ b → IsSome (cond b (Some e.1) (lookup (hit p) es))
          → find (slice_cmp nat_cmp) q (flat (cond b ((e.0, w) ∷ es) (e ∷ set_value (hit p) es w))) ≡ cond (is_eq (S q p)) (Some w) (cond (is_eq (S q (f e.0))) (Some e.1) (find (slice_cmp nat_cmp) q (flat es)))
      by_test rest true t there =
          twice (is_eq (S q (f e.0))) (Some w) (Some e.1) (find (slice_cmp nat_cmp) q (flat es))
          ∙ ap (λ x. cond (is_eq (S q x)) (Some w) (cond (is_eq (S q (f e.0))) (Some e.1) (find (slice_cmp nat_cmp) q (flat es)))) (sym (tied p (f e.0) t))
      by_test rest false t there =
          ap (cond (is_eq (S q (f e.0))) (Some e.1)) (rest there)
          ∙ swapped (is_eq (S q (f e.0))) (is_eq (S q p)) (Some e.1) (Some w) (find (slice_cmp nat_cmp) q (flat es))
          (λ a b. true≢false (sym (ap (λ x. is_eq (S x (f e.0))) (sym (tied q p b)) ∙ a) ∙ t))

  -- a mark that is written
  pub by_fields-set : (p : List ℕ) (w : Option ℕ) (es : List (K × Option ℕ)) → IsSome (lookup (hit p) es) → by_fields f (set_value (hit p) es w) ≡ insert (by_fields f es) p w
  by_fields-set p w es there =
      same_map nat_list_cmp_total (slice_cmp-IsAntisymmetric nat_cmp-IsAntisymmetric) _ _ (λ q.
      get-by_fields (set_value (hit p) es w) q ∙ find-set p w es there q
      ∙ sym (get-insert nat_list_cmp_total (by_fields f es) p w q ∙ ap (cond (is_eq (S q p)) (Some w)) (get-by_fields es q)))

  -- a path before all others isn't found
  find-above : (p : List ℕ) (es : List (K × Option ℕ)) → AllByRecursion (λ y. S p (f y) ≡ Less) (keys_of es) → find (slice_cmp nat_cmp) p (flat es) ≡ None
  find-above p [] h = refl
  find-above p (e ∷ es) h = ap (λ r. cond (is_eq r) (Some e.1) (find (slice_cmp nat_cmp) p (flat es))) h.0 ∙ find-above p es h.1

  -- the rest after an entry finds what is found, but that entry
  pub find-rest : (e : K × Option ℕ) (es : List (K × Option ℕ)) → AllByRecursion (λ y. S (f e.0) (f y) ≡ Less) (keys_of es) → (q : List ℕ)
      → find (slice_cmp nat_cmp) q (flat es) ≡ cond (is_eq (S q (f e.0))) None (find (slice_cmp nat_cmp) q (flat (e ∷ es)))
  find-rest e es above q =
      out_if (is_eq (S q (f e.0))) e.1 (find (slice_cmp nat_cmp) q (flat es))
      (λ t. ap (λ x. find (slice_cmp nat_cmp) x (flat es)) (tied q (f e.0) t) ∙ find-above (f e.0) es above)

  find-remove : (p : List ℕ) (es : List (K × Option ℕ)) → IsStrictlySortedBy order (keys_of es) → (q : List ℕ) → find (slice_cmp nat_cmp) q (flat (remove_entry (hit p) es)) ≡ cond (is_eq (S q p)) None (find (slice_cmp nat_cmp) q (flat es))
  unfolding IsStrictlySortedBy
  find-remove p [] sorted q = either_none (is_eq (S q p))
  find-remove p (e ∷ es) sorted q = by_test (find-rest e es sorted.0 q) (find-remove p es sorted.1 q) (hit p e.0) refl
    where
      by_test : find (slice_cmp nat_cmp) q (flat es) ≡ cond (is_eq (S q (f e.0))) None (find (slice_cmp nat_cmp) q (flat (e ∷ es)))
          → find (slice_cmp nat_cmp) q (flat (remove_entry (hit p) es)) ≡ cond (is_eq (S q p)) None (find (slice_cmp nat_cmp) q (flat es)) → (b : Bool) → hit p e.0 ≡ b
          → find (slice_cmp nat_cmp) q (flat (cond b es (e ∷ remove_entry (hit p) es))) ≡ cond (is_eq (S q p)) None (cond (is_eq (S q (f e.0))) (Some e.1) (find (slice_cmp nat_cmp) q (flat es)))
      by_test head rest true t =
          head
          ∙ ap (λ x. cond (is_eq (S q x)) None (cond (is_eq (S q (f e.0))) (Some e.1) (find (slice_cmp nat_cmp) q (flat es)))) (sym (tied p (f e.0) t))
      by_test head rest false t =
          ap (cond (is_eq (S q (f e.0))) (Some e.1)) rest
          ∙ swapped (is_eq (S q (f e.0))) (is_eq (S q p)) (Some e.1) None (find (slice_cmp nat_cmp) q (flat es))
          (λ a b. true≢false (sym (ap (λ x. is_eq (S x (f e.0))) (sym (tied q p b)) ∙ a) ∙ t))

  -- a mark that is taken out
  pub by_fields-remove : (p : List ℕ) (es : List (K × Option ℕ)) → IsStrictlySortedBy order (keys_of es) → by_fields f (remove_entry (hit p) es) ≡ remove (by_fields f es) p
  by_fields-remove p es sorted =
      same_map nat_list_cmp_total (slice_cmp-IsAntisymmetric nat_cmp-IsAntisymmetric) _ _ (λ q.
      get-by_fields (remove_entry (hit p) es) q ∙ find-remove p es sorted q
      ∙ sym (get-remove nat_list_cmp_total (by_fields f es) p q ∙ ap (cond (is_eq (S q p)) None) (get-by_fields es q)))

  -- no path stands twice
  pub len-by_fields : (es : List (K × Option ℕ)) → IsStrictlySortedBy order (keys_of es) → len (by_fields f es) ≡ length es
  unfolding IsStrictlySortedBy
  len-by_fields [] sorted = len-empty (slice_cmp nat_cmp) (Option ℕ)
  len-by_fields (e ∷ es) sorted =
      let none : get (by_fields f es) (f e.0) ≡ None = get-by_fields es (f e.0) ∙ find-above (f e.0) es sorted.0 in
      rw (len-insert nat_list_cmp_total (by_fields f es) (f e.0) e.1, none) (omega (arith, len-by_fields es sorted.1))
