-- Slabs and ordered maps, seen as finite maps.
use Rattle.std.proofs.Common.{◌≡◌, ◌≢◌, ◌⊎◌, Less, IsSome, IfSome, inl, inr, MutBor, ℕ, zero, suc, ◌+◌, ◌-◌, ◌<◌, ◌≤◌, List, [], ◌∷◌, Option, Some, None, Bool, true, false, cond, get_or, is_some, length, true≢false, refl, sym, ap, ◌∙◌, arith}
use Rattle.std.proofs.lemmas.Bool.{cases_eq}
use Rattle.std.proofs.lemmas.Bool.Decides.{nat_tests}
use Rattle.std.specs.Ordering.{nat_cmp, eq_by_cmp, is_eq}
use Rattle.std.specs.Cmp.{nat_cmp_total}
use Rattle.std.specs.List.{AllByRecursion}
use Rattle.std.specs.Option.{option_copied_mut}
use Rattle.std.specs.List.Sorted.{IsStrictlySortedBy}
use Rattle.std.specs.Map.{lookup, keys_of}
use Rattle.std.specs.BTreeMap.{BTreeMap, get_by, is_at, btree_map_len, IsOrdered, Updates}
use Rattle.std.specs.BTreeMap as tree
use Rattle.std.specs.FinMap.{find, from_entries, same_map, nat_cmp-IsAntisymmetric, get-from_entries, get-insert, get-remove, len-insert, len-remove, len-empty, len, insert, remove, put, entries-insert}
use Rattle.std.specs.FinMap as map
use Rattle.slab.specs.Slab.{Slab, get, entries_from, entries, slab_len, ContainsKey, with_value}
use Rattle.slab.specs.Slab as slab
use Rattle.slab.proofs.SlabLemmas.{length-entries, Updates-with_value}
use Rattle.cp_tables.specs.Table.{Table, with_change}

-- different numbers don't tie
differs : (q k : ℕ) → q ≢ k → eq_by_cmp nat_cmp q k ≡ false
differs q k h = grind (arith, nat_tests)

-- equal numbers tie
equals : (q k : ℕ) → q ≡ k → eq_by_cmp nat_cmp q k ≡ true
equals q k h = grind (arith, nat_tests)

-- only equal numbers tie
is_equal : (q k : ℕ) → eq_by_cmp nat_cmp q k ≡ true → q ≡ k
is_equal q k t = grind (arith, nat_tests)

-- numbers that don't tie differ
is_other : (q k : ℕ) → eq_by_cmp nat_cmp q k ≡ false → q ≢ k
is_other q k t = λ e. true≢false (sym (equals q k e) ∙ t)

-- a test adds one at most
pub at_most_one : (b : Bool) → cond b 0 1 ≤ 1
at_most_one true = omega arith
at_most_one false = omega arith

-- what is lent is there, if what it points to is
pub IsSome-lent : {X : Type 0} (o : Option (MutBor X)) → IsSome (option_copied_mut o) → IsSome o
IsSome-lent None h = h
IsSome-lent (Some r) h = refl

-- the same is lent where the lender ends as the same, whatever is written
pub lends_same : {N V R : Type 0} (name : N) (f g : V → R) → ((w : V) → f w ≡ g w) → ◌≡◌ {A = (N × (V → R)) ⊎ R} (inl (name, f)) (inl (name, g))
lends_same name f g same = λ i. inl (name, λ w. same w i)

-- the empty table lists nothing
no_entries : {X : Type 0} → map.entries {R = nat_cmp} (map.empty {X = X}) ≡ []
no_entries {X} = no_length _ (sym (map.len-entries (map.empty {X = X} {R = nat_cmp})) ∙ len-empty nat_cmp X)
  where
    no_length : (es : List (ℕ × X)) → length es ≡ 0 → es ≡ []
    no_length [] e = refl
    no_length (x ∷ es) e = absurd (omega arith)

module _ {X : Type 0} where
  -- two tables with the same entry at each number are the same
  pub same_table : (m n : Table X) → ((q : ℕ) → map.get m q ≡ map.get n q) → m ≡ n
  same_table m n h = same_map nat_cmp_total nat_cmp-IsAntisymmetric m n h

  -- a number has the entry that was put there
  pub get-insert_same : (m : Table X) (k : ℕ) (v : X) → map.get (insert m k v) k ≡ Some v
  get-insert_same m k v = rw (get-insert nat_cmp_total m k v k, equals k k refl)

  -- any other number keeps its entry
  pub get-insert_other : (m : Table X) (k q : ℕ) (v : X) → q ≢ k → map.get (insert m k v) q ≡ map.get m q
  get-insert_other m k q v h = rw (get-insert nat_cmp_total m k v q, differs q k h)

  -- a number has nothing once its entry was taken out
  pub get-remove_same : (m : Table X) (k : ℕ) → map.get (remove m k) k ≡ None
  get-remove_same m k = rw (get-remove nat_cmp_total m k k, equals k k refl)

  -- any other number keeps its entry
  pub get-remove_other : (m : Table X) (k q : ℕ) → q ≢ k → map.get (remove m k) q ≡ map.get m q
  get-remove_other m k q h = rw (get-remove nat_cmp_total m k q, differs q k h)

  -- a table that has this entry at k, and else what m has, is m with it
  pub is_insert : (m n : Table X) (k : ℕ) (v : X) → map.get n k ≡ Some v → ((q : ℕ) → q ≢ k → map.get n q ≡ map.get m q) → n ≡ insert m k v
  is_insert m n k v here others = same_table _ _ (λ q. at q (eq_by_cmp nat_cmp q k) refl)
    where
      at : (q : ℕ) (b : Bool) → eq_by_cmp nat_cmp q k ≡ b → map.get n q ≡ map.get (insert m k v) q
      at q true t = let e = is_equal q k t in rw (get-insert nat_cmp_total m k v q, t, e) here
      at q false t = rw (get-insert nat_cmp_total m k v q, t) (others q (is_other q k t))

  -- a table that has nothing at k, and else what m has, is m without it
  pub is_remove : (m n : Table X) (k : ℕ) → map.get n k ≡ None → ((q : ℕ) → q ≢ k → map.get n q ≡ map.get m q) → n ≡ remove m k
  is_remove m n k here others = same_table _ _ (λ q. at q (eq_by_cmp nat_cmp q k) refl)
    where
      at : (q : ℕ) (b : Bool) → eq_by_cmp nat_cmp q k ≡ b → map.get n q ≡ map.get (remove m k) q
      at q true t = let e = is_equal q k t in rw (get-remove nat_cmp_total m k q, t, e) here
      at q false t = rw (get-remove nat_cmp_total m k q, t) (others q (is_other q k t))

  -- to put what is there changes nothing
  pub insert-same : (m : Table X) (k : ℕ) (v : X) → map.get m k ≡ Some v → insert m k v ≡ m
  insert-same m k v h = sym (is_insert m m k v h (λ q _. refl))

  -- an entry that is removed may have been written before
  pub remove-insert : (m : Table X) (k : ℕ) (v : X) → remove (insert m k v) k ≡ remove m k
  remove-insert m k v = is_remove m _ k (get-remove_same (insert m k v) k) (λ q h. get-remove_other (insert m k v) k q h ∙ get-insert_other m k q v h)

  -- what stood under a number that is put doesn't matter
  pub insert-remove : (m : Table X) (k : ℕ) (v : X) → insert (remove m k) k v ≡ insert m k v
  insert-remove m k v = is_insert m _ k v (get-insert_same (remove m k) k v) (λ q h. get-insert_other (remove m k) k q v h ∙ get-remove_other m k q h)

  -- a second write is the one that counts
  pub insert-insert : (m : Table X) (k : ℕ) (u v : X) → insert (insert m k u) k v ≡ insert m k v
  insert-insert m k u v = is_insert m _ k v (get-insert_same (insert m k u) k v) (λ q h. get-insert_other (insert m k u) k q v h ∙ get-insert_other m k q u h)

  -- nothing goes where nothing is
  pub remove-absent : (m : Table X) (k : ℕ) → map.get m k ≡ None → remove m k ≡ m
  remove-absent m k h = sym (is_remove m m k h (λ q _. refl))

  -- one goes and another comes, in either order
  pub remove-insert_other : (m : Table X) (k j : ℕ) (v : X) → k ≢ j → remove (insert m k v) j ≡ insert (remove m j) k v
  remove-insert_other m k j v apart =
      sym (
      is_remove (insert m k v) (insert (remove m j) k v) j
      (get-insert_other (remove m j) k j v (λ e. apart (sym e)) ∙ get-remove_same m j)
      (λ q h. elim (cases_eq q k) [
        | inl same ↦ rw (same, get-insert_same (remove m j) k v, get-insert_same m k v) refl
        | inr other ↦ get-insert_other (remove m j) k q v other ∙ get-remove_other m j q h ∙ sym (get-insert_other m k q v other)
      ])
      )

  -- the change of an entry that is there
  pub with_change_at : (m : Table X) (k : ℕ) (v : X) (f : X → X) → map.get m k ≡ Some v → insert m k (f v) ≡ with_change m k f
  with_change_at m k v f h = rw h

  -- what holds of each entry and of a new one holds of each entry with it
  pub every-insert : (P : X → Type 0) (m : Table X) (k : ℕ) (v : X) → ((q : ℕ) → IfSome (map.get m q) P) → P v → (q : ℕ) → IfSome (map.get (insert m k v) q) P
  every-insert P m k v all here q =
      elim (cases_eq q k) [
        | inl same ↦ rw (same, get-insert_same m k v) here
        | inr other ↦ rw (get-insert_other m k q v other) (all q)
      ]

  -- what holds of each entry holds of those that are left
  pub every-remove : (P : X → Type 0) (m : Table X) (k : ℕ) → ((q : ℕ) → IfSome (map.get m q) P) → (q : ℕ) → IfSome (map.get (remove m k) q) P
  every-remove P m k all q =
      elim (cases_eq q k) [
        | inl same ↦ rw (same, get-remove_same m k) tt
        | inr other ↦ rw (get-remove_other m k q other) (all q)
      ]

  -- ---- slabs
  -- a slab's values by their keys
  abbrev pub seen : Slab X → Table X
  seen s = from_entries (entries s)

  -- a key before the first is not found
  find-below : (slots : List (Option X)) (base q : ℕ) → q < base → find nat_cmp q (entries_from base slots) ≡ None
  find-below [] base q h = refl
  find-below (None ∷ rest) base q h = find-below rest (base + 1) q (omega arith)
  find-below (Some v ∷ rest) base q h = rw (differs q base (omega arith)) (find-below rest (base + 1) q (omega arith))

  -- each key finds what its slot holds
  find-entries : (slots : List (Option X)) (base n : ℕ) → (q : ℕ) → q ≡ base + n → find nat_cmp q (entries_from base slots) ≡ get_or slots n None
  find-entries [] base n q h = refl
  find-entries (None ∷ rest) base zero q h = find-below rest (base + 1) q (omega arith)
  find-entries (None ∷ rest) base (suc n) q h = find-entries rest (base + 1) n q (omega arith)
  find-entries (Some v ∷ rest) base zero q h = rw (equals q base (omega arith))
  find-entries (Some v ∷ rest) base (suc n) q h = rw (differs q base (omega arith)) (find-entries rest (base + 1) n q (omega arith))

  -- the table has at each number what the slab has
  pub get-seen : (s : Slab X) (q : ℕ) → map.get (seen s) q ≡ get s q
  get-seen s q = get-from_entries nat_cmp_total (entries s) q ∙ find-entries s.slots 0 q q (omega arith)

  -- no key stands twice
  len-entries_from : (slots : List (Option X)) (base : ℕ) → len (from_entries {R = nat_cmp} (entries_from base slots)) ≡ length (entries_from base slots)
  len-entries_from [] base = len-empty nat_cmp X
  len-entries_from (None ∷ rest) base = len-entries_from rest (base + 1)
  len-entries_from (Some v ∷ rest) base =
      let m : Table X = from_entries (entries_from (base + 1) rest) in
      let none : map.get m base ≡ None = get-from_entries nat_cmp_total _ base ∙ find-below rest (base + 1) base (omega arith) in
      rw (len-insert nat_cmp_total m base v, none) (omega (arith, len-entries_from rest (base + 1)))

  -- the table has as many entries as the slab
  pub len-seen : (s : Slab X) → len (seen s) ≡ slab_len s
  len-seen s = len-entries_from s.slots 0 ∙ length-entries s

  -- a slab without slots has no entries
  pub seen-empty : (s : Slab X) → s.slots ≡ [] → seen s ≡ map.empty
  seen-empty s h = ap (λ slots. from_entries (entries_from 0 slots)) h

  -- a slab's new value is a new entry
  pub seen-insert : (old new : Slab X) (k : ℕ) (v : X) → slab.Updates old new k (Some v) → seen new ≡ insert (seen old) k v
  seen-insert old new k v u = is_insert _ _ k v (get-seen new k ∙ u.changed) (λ q h. get-seen new q ∙ u.others q h ∙ sym (get-seen old q))

  -- a slab's value that goes is an entry that goes
  pub seen-remove : (old new : Slab X) (k : ℕ) → slab.Updates old new k None → seen new ≡ remove (seen old) k
  seen-remove old new k u = is_remove _ _ k (get-seen new k ∙ u.changed) (λ q h. get-seen new q ∙ u.others q h ∙ sym (get-seen old q))

  -- a slab with the same values has the same entries
  pub seen-same : (old new : Slab X) → slab.SameValues old new → seen new ≡ seen old
  seen-same old new same = same_table _ _ (λ q. get-seen new q ∙ same q ∙ sym (get-seen old q))

  -- ---- how many entries
  -- to write an entry again adds none
  pub len-insert_held : (m : Table X) (k : ℕ) (u v : X) → map.get m k ≡ Some u → len (insert m k v) ≡ len m
  len-insert_held m k u v h = rw (len-insert nat_cmp_total m k v, h)

  -- a new entry adds one
  pub len-insert_new : (m : Table X) (k : ℕ) (v : X) → map.get m k ≡ None → len (insert m k v) ≡ len m + 1
  len-insert_new m k v h = rw (len-insert nat_cmp_total m k v, h)

  -- a written entry leaves as many as there were
  pub few-insert_held : (m : Table X) (k n : ℕ) (u v : X) → Some u ≡ map.get m k → len m ≤ n → len (insert m k v) ≤ n
  few-insert_held m k n u v h few = rw (len-insert_held m k u v (sym h)) few

  -- where there is room for one, a new entry leaves no more than there may be
  pub few-insert_new : (m : Table X) (k n : ℕ) (v : X) → map.get m k ≡ None → len m ≢ n → len m ≤ n → len (insert m k v) ≤ n
  few-insert_new m k n v h room few = rw (len-insert_new m k v h) (omega arith)

  -- an entry that goes leaves no more than there were
  pub few-remove : (m : Table X) (k n : ℕ) → len m ≤ n → len (remove m k) ≤ n
  few-remove m k n few = rw (len-remove nat_cmp_total m k) (no_more (is_some (map.get m k)))
    where
      no_more : (b : Bool) → cond b (len m - 1) (len m) ≤ n
      no_more true = omega (arith, few)
      no_more false = few

  -- a write to an entry of a slab
  pub seen-with_value : (s : Slab X) (k : ℕ) (v : X) → ContainsKey s k → seen (with_value s k v) ≡ insert (seen s) k v
  seen-with_value s k v h = seen-insert s _ k v (Updates-with_value s k v h)

  -- a write to a value of a slab adds none
  pub slab_len-with_value : (s : Slab X) (k : ℕ) (u v : X) → get s k ≡ Some u → slab_len (with_value s k v) ≡ slab_len s
  slab_len-with_value s k u v h =
      sym (len-seen (with_value s k v))
      ∙ ap len (seen-with_value s k v (ap is_some h))
      ∙ len-insert_held (seen s) k u v (get-seen s k ∙ h)
      ∙ len-seen s

  -- ---- ordered maps
  -- an ordered map's values by their keys
  abbrev pub listed : BTreeMap ℕ X → Table X
  listed m = from_entries m.entries

  -- both look-ups find the first entry that ties
  find-lookup : (q : ℕ) (es : List (ℕ × X)) → find nat_cmp q es ≡ lookup (is_at (nat_cmp q)) es
  find-lookup q [] = refl
  find-lookup q (e ∷ es) = ap (cond (is_at (nat_cmp q) e.0) (Some e.1)) (find-lookup q es)

  -- the table has at each number what the map has
  pub get-listed : (m : BTreeMap ℕ X) (q : ℕ) → map.get (listed m) q ≡ get_by (nat_cmp q) m
  get-listed m q = get-from_entries nat_cmp_total m.entries q ∙ find-lookup q m.entries

  -- a key before all others is not found
  find-above : (k : ℕ) (es : List (ℕ × X)) → AllByRecursion (λ y. nat_cmp k y ≡ Less) (keys_of es) → find nat_cmp k es ≡ None
  find-above k [] h = refl
  find-above k (e ∷ es) h = rw (ap is_eq h.0) (find-above k es h.1)

  -- no key stands twice
  len-ordered : (es : List (ℕ × X)) → IsStrictlySortedBy nat_cmp (keys_of es) → len (from_entries {R = nat_cmp} es) ≡ length es
  unfolding IsStrictlySortedBy
  len-ordered [] h = len-empty nat_cmp X
  len-ordered (e ∷ es) h =
      let none : map.get (from_entries {R = nat_cmp} es) e.0 ≡ None = get-from_entries nat_cmp_total es e.0 ∙ find-above e.0 es h.0 in
      rw (len-insert_new (from_entries es) e.0 e.1 none) (omega (arith, len-ordered es h.1))

  -- the table has as many entries as the map
  pub len-listed : (m : BTreeMap ℕ X) → IsOrdered nat_cmp m → len (listed m) ≡ btree_map_len m
  len-listed m h = len-ordered m.entries h

  -- what is put into the map is put into the table
  pub listed-insert : (old new : BTreeMap ℕ X) (k : ℕ) (v : X) → tree.Updates nat_cmp old new k (Some v) → listed new ≡ insert (listed old) k v
  listed-insert old new k v u = is_insert _ _ k v (get-listed new k ∙ u.1) (λ q h. get-listed new q ∙ u.2 q (differs k q (λ e. h (sym e))) ∙ sym (get-listed old q))

  -- what is taken out of the map is taken out of the table
  pub listed-remove : (old new : BTreeMap ℕ X) (k : ℕ) → tree.Updates nat_cmp old new k None → listed new ≡ remove (listed old) k
  listed-remove old new k u = is_remove _ _ k (get-listed new k ∙ u.1) (λ q h. get-listed new q ∙ u.2 q (differs k q (λ e. h (sym e))) ∙ sym (get-listed old q))

  -- an entry before all others goes to the front
  below : (k : ℕ) (v : X) (es : List (ℕ × X)) → AllByRecursion (λ y. nat_cmp k y ≡ Less) (keys_of es) → put nat_cmp k v es ≡ (k, v) ∷ es
  below k v [] h = refl
  below k v (e ∷ es) h = rw h.0

  -- entries in order are listed as they are
  entries-ordered : (es : List (ℕ × X)) → IsStrictlySortedBy nat_cmp (keys_of es) → map.entries (from_entries {R = nat_cmp} es) ≡ es
  unfolding IsStrictlySortedBy
  entries-ordered [] h = no_entries
  entries-ordered (e ∷ es) h = rw (entries-insert nat_cmp_total (from_entries es) e.0 e.1, entries-ordered es h.1) (below e.0 e.1 es h.0)

  -- the table has the map's entries, in their order
  pub entries-listed : (m : BTreeMap ℕ X) → IsOrdered nat_cmp m → map.entries (listed m) ≡ m.entries
  entries-listed m h = entries-ordered m.entries h

  -- the table has the map's keys, in their order
  pub keys-listed : (m : BTreeMap ℕ X) → IsOrdered nat_cmp m → map.keys (listed m) ≡ tree.keys m
  keys-listed m h = ap keys_of (entries-ordered m.entries h)

  -- the keys from a place on are above all before it
  entries_from-above : (slots : List (Option X)) (base k : ℕ) → k < base → AllByRecursion (λ y. nat_cmp k y ≡ Less) (keys_of (entries_from base slots))
  entries_from-above [] base k h = tt
  entries_from-above (None ∷ rest) base k h = entries_from-above rest (base + 1) k (omega arith)
  entries_from-above (Some v ∷ rest) base k h = (grind (arith, nat_tests), entries_from-above rest (base + 1) k (omega arith))

  -- a slab's keys rise
  entries_from-sorted : (slots : List (Option X)) (base : ℕ) → IsStrictlySortedBy nat_cmp (keys_of (entries_from base slots))
  unfolding IsStrictlySortedBy
  entries_from-sorted [] base = tt
  entries_from-sorted (None ∷ rest) base = entries_from-sorted rest (base + 1)
  entries_from-sorted (Some v ∷ rest) base = (entries_from-above rest (base + 1) base (omega arith), entries_from-sorted rest (base + 1))

  -- the table has the slab's entries, in their order
  pub entries-seen : (s : Slab X) → map.entries (seen s) ≡ entries s
  entries-seen s = entries-ordered (entries s) (entries_from-sorted s.slots 0)
