-- What entries that lie side by side are, as their places and they change.
use Rattle.std.proofs.Common.{◌≡◌, ◌≢◌, IsSome, IfSome, inl, inr, ℕ, ◌+◌, ◌-◌, List, [], ◌∷◌, Option, Some, None, Bool, true, false, cond, is_some, true≢false, refl, sym, ap, subst, ◌∙◌, arith}
use Rattle.std.specs.Prelude.{T, ◌&&◌}
use Rattle.std.specs.declared.cmp.Ordering.{Ordering}
use Rattle.std.specs.declared.cmp.Ordering.TheVariants.{Less, Equal, Greater}
use Rattle.std.proofs.lemmas.Bool.{cases_eq}
use Rattle.std.proofs.lemmas.Bool.Decides.{nat_tests}
use Rattle.std.specs.Option.{option_map_or, option_and_then}
use Rattle.std.specs.Ordering.{nat_cmp, eq_by_cmp, is_lt, is_eq}
use Rattle.std.specs.Cmp.{nat_cmp_total}
use Rattle.std.specs.FinMap.{find, get, insert, remove, len, entries, empty, entries_sorted, get-entries, get-from_entries, get-empty, len-remove, len-empty}
use Rattle.std.specs.FinMap.Entries.{below_all, is_sorted}
use Rattle.slab.specs.Slab.{Slab}
use Rattle.slab.specs.Slab as slab
use Rattle.cp_tables.specs.Table.{Table}
use Rattle.cp_tables.specs.Placed.{lying, placed, IsPlaced}
use Rattle.cp_tables.proofs.TableLemmas.{is_insert, is_remove, same_table, get-insert_same, get-insert_other, get-remove_same, get-remove_other, len-insert_new, len-insert_held, insert-remove, remove-absent, remove-insert, remove-insert_other, seen, get-seen, seen-insert, seen-remove}

ties : (k q : ℕ) → k ≡ q → eq_by_cmp nat_cmp k q ≡ true
ties k q h = grind (arith, nat_tests)

differs : (k q : ℕ) → k ≢ q → eq_by_cmp nat_cmp k q ≡ false
differs k q h = grind (arith, nat_tests)

left_true : (a b : Bool) → T (a && b) → T a
left_true true b h = tt
left_true false b h = h

right_true : (a b : Bool) → T (a && b) → T b
right_true true b h = h
right_true false b h = absurd h

below_differs : (o : Ordering) → T (is_lt o) → is_eq o ≡ false
below_differs Less h = refl
below_differs Equal h = absurd h
below_differs Greater h = refl

-- what is there isn't what is absent
there : {X : Type 0} (o : Option X) → o ≡ None → ¬ (IsSome o)
there o e h = true≢false (sym h ∙ ap is_some e)

-- a number that has a place has that one
same_place : (p r : ℕ) → Some p ≡ Some r → p ≡ r
same_place p r e = ap (λ o. option_map_or (λ n. n) o 0) e

-- a number without a place has none
no_place : (r : ℕ) → ¬ (None ≡ Some r)
no_place r e = there (Some r) (sym e) refl

-- what holds of a place holds still
still : {P Q : ℕ → Type 0} (o : Option ℕ) → IfSome o P → ((r : ℕ) → o ≡ Some r → P r → Q r) → IfSome o Q
still None p h = tt
still (Some r) p h = h r refl p

module _ {X : Type 0} where
  -- of a number below all others nothing lies anywhere
  nothing_lies : (slots : Table X) (q : ℕ) (es : List (ℕ × ℕ)) → T (below_all nat_cmp q es) → find nat_cmp q (lying slots es) ≡ None
  nothing_lies slots q [] h = refl
  nothing_lies slots q (e ∷ es) h =
      let rest = nothing_lies slots q es (right_true (is_lt (nat_cmp q e.0)) _ h) in
      elim (get slots e.1) as (λ o. find nat_cmp q (option_map_or (λ x. (e.0, x) ∷ lying slots es) o (lying slots es)) ≡ None) [
        | None ↦ rest
        | Some x ↦ ap (λ b. cond b (Some x) (find nat_cmp q (lying slots es))) (below_differs (nat_cmp q e.0) (left_true _ _ h)) ∙ rest
      ]

  -- what is found under a number lies at its place
  find_lying : (slots : Table X) (q : ℕ) (es : List (ℕ × ℕ)) → T (is_sorted nat_cmp es) → find nat_cmp q (lying slots es) ≡ option_and_then (get slots) (find nat_cmp q es)
  find_lying slots q [] h = refl
  find_lying slots q (e ∷ es) h =
      elim (cases_eq q e.0) [
        | inl same ↦
            let none : find nat_cmp q (lying slots es) ≡ None = nothing_lies slots q es (rw same (left_true _ _ h)) in
            elim (get slots e.1) as (λ o. find nat_cmp q (option_map_or (λ x. (e.0, x) ∷ lying slots es) o (lying slots es)) ≡ o) [
              | None ↦ none
              | Some x ↦ ap (λ b. cond b (Some x) (find nat_cmp q (lying slots es))) (ties q e.0 same)
            ] ∙ sym (ap (λ b. option_and_then (get slots) (cond b (Some e.1) (find nat_cmp q es))) (ties q e.0 same))
        | inr other ↦
            elim (get slots e.1) as (λ o. find nat_cmp q (option_map_or (λ x. (e.0, x) ∷ lying slots es) o (lying slots es)) ≡ find nat_cmp q (lying slots es)) [
              | None ↦ refl
              | Some x ↦ ap (λ b. cond b (Some x) (find nat_cmp q (lying slots es))) (differs q e.0 other)
            ] ∙ find_lying slots q es (right_true (below_all nat_cmp e.0 es) _ h)
            ∙ sym (ap (λ b. option_and_then (get slots) (cond b (Some e.1) (find nat_cmp q es))) (differs q e.0 other))
      ]

  -- each number has what lies at its place
  pub get-placed : (places : Table ℕ) (slots : Table X) (q : ℕ) → get (placed places slots) q ≡ option_and_then (get slots) (get places q)
  get-placed places slots q =
      get-from_entries nat_cmp_total (lying slots (entries places)) q
      ∙ find_lying slots q (entries places) (entries_sorted places)
      ∙ ap (option_and_then (get slots)) (sym (get-entries places q))

  -- what lies at a place stays, if it stays at the place of each number
  elsewhere : (new old : Table X) (o : Option ℕ) → ((r : ℕ) → o ≡ Some r → get new r ≡ get old r) → option_and_then (get new) o ≡ option_and_then (get old) o
  elsewhere new old None h = refl
  elsewhere new old (Some r) h = h r refl

  -- a place at which nothing lies is no number's
  is_free : (places : Table ℕ) (slots : Table X) (last : Option (ℕ × ℕ)) → IsPlaced places slots last → (place : ℕ) → get slots place ≡ None
      → (q r : ℕ) → get places q ≡ Some r → r ≢ place
  is_free places slots last k place free q r e same =
      there (get slots place) free (rw (← same) (subst (λ o. IfSome o (λ r. IsSome (get slots r))) e (k.held q)))

  held_value : (o : Option X) → IsSome o → (v : X) × (o ≡ Some v)
  held_value None h = absurd (true≢false (sym h))
  held_value (Some v) h = (v, refl)

  -- the same places and slots, said otherwise
  pub IsPlaced-as : (p q : Table ℕ) (s t : Table X) (last : Option (ℕ × ℕ)) → p ≡ q → s ≡ t → IsPlaced q t last → IsPlaced p s last
  IsPlaced-as p q s t last a b h = rw (a, b) h

  pub placed-as : (p q : Table ℕ) (s t : Table X) → p ≡ q → s ≡ t → placed p s ≡ placed q t
  placed-as p q s t a b = rw (a, b) refl

  -- ---- no entries
  pub placed-empty : (slots : Table X) → placed empty slots ≡ empty
  placed-empty slots = same_table _ _ (λ q. get-placed empty slots q ∙ ap (option_and_then (get slots)) (get-empty nat_cmp q) ∙ sym (get-empty nat_cmp q))

  pub IsPlaced-empty : IsPlaced (empty {X = ℕ}) (empty {X = X}) None
  IsPlaced-empty = record {
    held = λ id. rw (get-empty nat_cmp id) tt;
    apart = λ id other place a b. absurd (no_place place (sym (get-empty nat_cmp id) ∙ a));
    alike = len-empty nat_cmp X ∙ sym (len-empty nat_cmp ℕ);
    counted = ap len (placed-empty empty) ∙ len-empty nat_cmp X ∙ sym (len-empty nat_cmp ℕ);
    found = tt;
  }

  module _ (places : Table ℕ) (slots : Table X) (last : Option (ℕ × ℕ)) (k : IsPlaced places slots last) where
    -- nothing was opened last
    pub IsPlaced-forgotten : IsPlaced places slots None
    IsPlaced-forgotten = record { held = k.held; apart = k.apart; alike = k.alike; counted = k.counted; found = tt }

    -- ---- an entry that opens
    pub placed-insert : (id place : ℕ) (x : X) → get slots place ≡ None → placed (insert places id place) (insert slots place x) ≡ insert (placed places slots) id x
    placed-insert id place x free =
        is_insert _ _ id x
        (get-placed _ _ id ∙ ap (option_and_then (get (insert slots place x))) (get-insert_same places id place) ∙ get-insert_same slots place x)
        (λ q h. get-placed _ _ q
        ∙ ap (option_and_then (get (insert slots place x))) (get-insert_other places id q place h)
        ∙ elsewhere _ slots (get places q) (λ r e. get-insert_other slots place r x (is_free places slots last k place free q r e))
        ∙ sym (get-placed places slots q))

    -- the number that opened has the new place
    here_is : (id place q p : ℕ) → q ≡ id → get (insert places id place) q ≡ Some p → p ≡ place
    here_is id place q p same a = sym (same_place place p (sym (ap (get (insert places id place)) same ∙ get-insert_same places id place) ∙ a))

    -- no other number has it
    not_new : (id place : ℕ) (x : X) → get places id ≡ None → get slots place ≡ None → (r p : ℕ) → r ≢ id → get (insert places id place) r ≡ Some p → p ≢ place
    not_new id place x new free r p other b = is_free places slots last k place free r p (sym (get-insert_other places id r place other) ∙ b)

    pub IsPlaced-insert : (id place : ℕ) (x : X) → get places id ≡ None → get slots place ≡ None → IsPlaced (insert places id place) (insert slots place x) (Some (id, place))
    IsPlaced-insert id place x new free =
        let none : get (placed places slots) id ≡ None = get-placed places slots id ∙ ap (option_and_then (get slots)) new in
        record {
          held = λ q. elim (cases_eq q id) [
            | inl same ↦ rw (same, get-insert_same places id place, get-insert_same slots place x) refl
            | inr other ↦ rw (get-insert_other places id q place other)
                (still (get places q) (k.held q) (λ r e held. rw (get-insert_other slots place r x (is_free places slots last k place free q r e)) held))
          ];
          apart = λ q r p a b. elim (cases_eq q id) [
            | inl same ↦ elim (cases_eq r id) [
              | inl alike ↦ same ∙ sym alike
              | inr other ↦ absurd (not_new id place x new free r p other b (here_is id place q p same a))
            ]
            | inr other ↦ elim (cases_eq r id) [
              | inl same ↦ absurd (not_new id place x new free q p other a (here_is id place r p same b))
              | inr two ↦ k.apart q r p (sym (get-insert_other places id q place other) ∙ a) (sym (get-insert_other places id r place two) ∙ b)
            ]
          ];
          alike = len-insert_new slots place x free ∙ ap (λ n. n + 1) k.alike ∙ sym (len-insert_new places id place new);
          counted = ap len (placed-insert id place x free) ∙ len-insert_new (placed places slots) id x none ∙ ap (λ n. n + 1) k.counted ∙ sym (len-insert_new places id place new);
          found = get-insert_same places id place;
        }

    -- ---- an entry that is written
    pub placed-write : (id place : ℕ) (x : X) → get places id ≡ Some place → placed places (insert slots place x) ≡ insert (placed places slots) id x
    placed-write id place x here =
        is_insert _ _ id x
        (get-placed _ _ id ∙ ap (option_and_then (get (insert slots place x))) here ∙ get-insert_same slots place x)
        (λ q h. get-placed _ _ q
        ∙ elsewhere _ slots (get places q) (λ r e. get-insert_other slots place r x (λ same. h (k.apart q id place (e ∙ ap Some same) here)))
        ∙ sym (get-placed places slots q))

    -- a place that a number still has, it had before
    was : (id q p : ℕ) → get (remove places id) q ≡ Some p → get places q ≡ Some p
    was id q p a = elim (cases_eq q id) [
      | inl same ↦ absurd (no_place p (sym (ap (get (remove places id)) same ∙ get-remove_same places id) ∙ a))
      | inr other ↦ sym (get-remove_other places id q other) ∙ a
    ]

    pub lies : (id place : ℕ) → get places id ≡ Some place → IsSome (get slots place)
    lies id place here = subst (λ o. IfSome o (λ r. IsSome (get slots r))) here (k.held id)

    -- ---- an entry that goes
    pub placed-remove : (id place : ℕ) → get places id ≡ Some place → placed (remove places id) (remove slots place) ≡ remove (placed places slots) id
    placed-remove id place here =
        is_remove _ _ id
        (get-placed _ _ id ∙ ap (option_and_then (get (remove slots place))) (get-remove_same places id))
        (λ q h. get-placed _ _ q
        ∙ ap (option_and_then (get (remove slots place))) (get-remove_other places id q h)
        ∙ elsewhere _ slots (get places q) (λ r e. get-remove_other slots place r (λ same. h (k.apart q id place (e ∙ ap Some same) here)))
        ∙ sym (get-placed places slots q))

    -- where there is none, none goes
    pub placed-absent : (id : ℕ) → get places id ≡ None → placed (remove places id) slots ≡ remove (placed places slots) id
    placed-absent id none =
        is_remove _ _ id
        (get-placed _ _ id ∙ ap (option_and_then (get slots)) (get-remove_same places id))
        (λ q h. get-placed _ _ q ∙ ap (option_and_then (get slots)) (get-remove_other places id q h) ∙ sym (get-placed places slots q))

    -- a table with one entry less
    fewer : {Y : Type 0} (m : Table Y) (id : ℕ) → IsSome (get m id) → len (remove m id) ≡ len m - 1
    fewer m id h = len-remove nat_cmp_total m id ∙ ap (λ b. cond b (len m - 1) (len m)) h

    -- a table without an entry
    as_many : {Y : Type 0} (m : Table Y) (id : ℕ) → get m id ≡ None → len (remove m id) ≡ len m
    as_many m id h = len-remove nat_cmp_total m id ∙ ap (λ o. cond (is_some o) (len m - 1) (len m)) h

    pub IsPlaced-write : (id place : ℕ) (x : X) → get places id ≡ Some place → IsPlaced places (insert slots place x) last
    IsPlaced-write id place x here =
        let v = held_value (get slots place) (lies id place here) in
        record {
          held = λ q. still (get places q) (k.held q) (λ r e held. elim (cases_eq r place) [
            | inl same ↦ rw (same, get-insert_same slots place x) refl
            | inr other ↦ rw (get-insert_other slots place r x other) held
          ]);
          apart = k.apart;
          alike = len-insert_held slots place v.0 x v.1 ∙ k.alike;
          counted = ap len (placed-write id place x here) ∙ len-insert_held (placed places slots) id v.0 x (get-placed places slots id ∙ ap (option_and_then (get slots)) here ∙ v.1) ∙ k.counted;
          found = k.found;
        }

    pub IsPlaced-remove : (id place : ℕ) → get places id ≡ Some place → IsPlaced (remove places id) (remove slots place) None
    IsPlaced-remove id place here =
        let value : IsSome (get (placed places slots) id) = rw (get-placed places slots id, here) (lies id place here) in
        record {
          held = λ q. elim (cases_eq q id) [
            | inl same ↦ rw (same, get-remove_same places id) tt
            | inr other ↦ rw (get-remove_other places id q other)
                (still (get places q) (k.held q) (λ r e held. rw (get-remove_other slots place r (λ same. other (k.apart q id place (e ∙ ap Some same) here))) held))
          ];
          apart = λ q r p a b. k.apart q r p (was id q p a) (was id r p b);
          alike = fewer slots place (lies id place here) ∙ ap (λ n. n - 1) k.alike ∙ sym (fewer places id (ap is_some here));
          counted = ap len (placed-remove id place here) ∙ fewer (placed places slots) id value ∙ ap (λ n. n - 1) k.counted ∙ sym (fewer places id (ap is_some here));
          found = tt;
        }

    pub IsPlaced-absent : (id : ℕ) → get places id ≡ None → IsPlaced (remove places id) slots None
    IsPlaced-absent id none =
        let nothing : get (placed places slots) id ≡ None = get-placed places slots id ∙ ap (option_and_then (get slots)) none in
        record {
          held = λ q. elim (cases_eq q id) [
            | inl same ↦ rw (same, get-remove_same places id) tt
            | inr other ↦ rw (get-remove_other places id q other) (k.held q)
          ];
          apart = λ q r p a b. k.apart q r p (was id q p a) (was id r p b);
          alike = k.alike ∙ sym (as_many places id none);
          counted = ap len (placed-absent id none) ∙ as_many (placed places slots) id nothing ∙ k.counted ∙ sym (as_many places id none);
          found = tt;
        }

  -- ---- an entry that takes another's place under its number
  module _ (places : Table ℕ) (slots : Table X) (last : Option (ℕ × ℕ)) (k : IsPlaced places slots last) (id place before : ℕ) (x : X) (here : get places id ≡ Some before) (free : get slots place ≡ None) where
    -- the new place isn't the earlier one
    other_place : before ≢ place
    other_place = is_free places slots last k place free id before here

    -- it comes once the other has gone
    gone_first : remove (insert slots place x) before ≡ insert (remove slots before) place x
    gone_first = remove-insert_other slots place before x (λ e. other_place (sym e))

    free_still : get (remove slots before) place ≡ None
    free_still = get-remove_other slots before place (λ e. other_place (sym e)) ∙ free

    without : IsPlaced (remove places id) (remove slots before) None
    without = IsPlaced-remove places slots last k id before here

    pub value-replace : get (insert slots place x) before ≡ get (placed places slots) id
    value-replace = get-insert_other slots place before x other_place ∙ sym (get-placed places slots id ∙ ap (option_and_then (get slots)) here)

    pub IsPlaced-replace : IsPlaced (insert places id place) (remove (insert slots place x) before) (Some (id, place))
    IsPlaced-replace =
        let opened = IsPlaced-insert (remove places id) (remove slots before) None without id place x (get-remove_same places id) free_still in
        IsPlaced-as _ _ _ _ _ (sym (insert-remove places id place)) gone_first opened

    pub placed-replace : placed (insert places id place) (remove (insert slots place x) before) ≡ insert (placed places slots) id x
    placed-replace =
        placed-as _ _ _ _ (sym (insert-remove places id place)) gone_first
        ∙ placed-insert (remove places id) (remove slots before) None without id place x free_still
        ∙ ap (λ t. insert t id x) (placed-remove places slots last k id before here)
        ∙ insert-remove (placed places slots) id x

  -- ---- slabs
  -- a number's entry is what the slab has at its place
  pub value_at : (places : Table ℕ) (s : Slab X) (id place : ℕ) → Some place ≡ get places id → get (placed places (seen s)) id ≡ slab.get s place
  value_at places s id place here = get-placed places (seen s) id ∙ ap (option_and_then (get (seen s))) (sym here) ∙ get-seen s place

  -- something lies at a number's place
  pub lies_at : (places : Table ℕ) (s : Slab X) (last : Option (ℕ × ℕ)) → IsPlaced places (seen s) last → (id place : ℕ) → get places id ≡ Some place → slab.ContainsKey s place
  lies_at places s last k id place here = subst (λ o. IsSome o) (get-seen s place) (lies places (seen s) last k id place here)

  -- the number that was put last has the place beside it
  pub last_place : (places : Table ℕ) (slots : Table X) (last : Option (ℕ × ℕ)) → IsPlaced places slots last → (number place id : ℕ) → last ≡ Some (number, place) → number ≡ id → get places id ≡ Some place
  last_place places slots last k number place id is same =
      ap (get places) (sym same) ∙ subst (λ o. IfSome o (λ at. get places at.0 ≡ Some at.1)) is k.found

  -- a number without a place has no entry
  pub no_value : (places : Table ℕ) (slots : Table X) (id : ℕ) → None ≡ get places id → get (placed places slots) id ≡ None
  no_value places slots id none = get-placed places slots id ∙ ap (option_and_then (get slots)) (sym none)

  -- one is put in, and then one goes
  pub put_then_removed : (s t u : Slab X) (place other : ℕ) (x : X) → slab.Updates s t place (Some x) → slab.Updates t u other None → seen u ≡ remove (insert (seen s) place x) other
  put_then_removed s t u place other x put taken = seen-remove t u other taken ∙ ap (λ m. remove m other) (seen-insert s t place x put)

  -- what was put in and taken out again leaves the slab's entries as they were
  pub put_back : (s t u : Slab X) (place : ℕ) (x : X) → slab.get s place ≡ None → slab.Updates s t place (Some x) → slab.Updates t u place None → seen u ≡ seen s
  put_back s t u place x free put taken =
      put_then_removed s t u place place x put taken
      ∙ remove-insert (seen s) place x
      ∙ remove-absent (seen s) place (get-seen s place ∙ free)
