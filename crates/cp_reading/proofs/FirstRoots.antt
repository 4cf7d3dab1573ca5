-- The first fault of a message is the one that reading it meets.
use Rattle.std.proofs.Common.{◌≡◌, ℕ, ◌+◌, ◌<◌, ◌≤◌, ◌==◌, List, length, Option, Some, None, Result, Ok, Err, Bool, true, false, nat_lt, cond, slice_index, refl, sym, ap, subst, inl, inr, ◌⊎◌, ◌∙◌, arith}
use Rattle.std.proofs.lemmas.Bool.Decides.{nat_tests}
use Rattle.std.proofs.lemmas.List.{get_or_past}
use Rattle.cp_words.specs.Limits.{Bounds}
use Rattle.cp_words.specs.Word.{pointer_of}
use Rattle.cp_words.specs.declared.pointer.ElementSize.{ElementSize}
use Rattle.cp_words.specs.declared.pointer.Pointer.{Pointer}
use Rattle.cp_words.specs.declared.pointer.Pointer.TheVariants as pointers
use Rattle.cp_words.specs.declared.kind.BodyKind.{BodyKind}
use Rattle.cp_words.specs.declared.kind.BodyKind.TheVariants as kinds
use Rattle.cp_words.specs.Targets.{segment}
use Rattle.cp_tree.specs.Node.{Node}
use Rattle.cp_reading.specs.Faults.{RootIsNoStruct}
use Rattle.cp_reading.specs.FirstFault.{own, IsFirstFault, no_root, root_kind, first}
use Rattle.cp_reading.specs.Reading.{◌>>=◌, Read, start_of, target_by, area_by, body_by, pointer_by, kids_at, tree_at, rooted, root_by, root_of, top}
use Rattle.cp_reading.specs.declared.target.PointerTarget.{PointerTarget}
use Rattle.cp_reading.specs.declared.fault.TreeFault.{TreeFault}
use Rattle.cp_reading.specs.declared.fault.TreeFault.TheVariants as faults
use Rattle.cp_reading.proofs.Checks.{target_found}
use Rattle.cp_reading.proofs.Complete.{exists_if}
use Rattle.cp_reading.proofs.FirstMet.{by_itself, first_met}
use Rattle.cp_reading.proofs.FirstRead.{first_read}
use Rattle.cp_reading.proofs.RootFaults.{root_list}
use Rattle.cp_reading.proofs.Roots.{root_led}
use Rattle.cp_reading.proofs.WrongTargets.{bind_err, err_is, target_fails}

module _ (S : List (List ℕ)) (limits : Bounds) where
  abbrev root_pointer : Option Pointer
  root_pointer = pointer_of (slice_index (segment S 0) 0)

  -- what the root's body is read as
  abbrev read_of : PointerTarget → Read Node
  read_of target = area_by top S target >>= body_by top (kids_at limits.nesting S) S limits.traversal

  -- the root leads to a list
  record ListLed : Type 0 where
    pub pointer : Pointer
    pub target : PointerTarget
    pub size : ElementSize
    pub number : ℕ
    pub says : root_pointer ≡ Some pointer
    pub found : target_by top S pointer ≡ Ok target
    pub is_list : target.kind ≡ kinds.List size number

  no_struct : RootIsNoStruct S → ((0 < length (segment S 0)) × (i : ℕ) × (root_pointer ≡ Some (pointers.Cap i))) ⊎ ((0 < length (segment S 0)) × ListLed)
  no_struct (inl h) = inl (h.1.0, h.0, h.1.1)
  no_struct (inr (o, size, n, inl h)) =
      inr (h.0, record { pointer = pointers.List o size n; target = record { kind = kinds.List size n; segment = 0; start = start_of 0 o }; size = size; number = n; says = h.1; found = refl; is_list = refl })
  no_struct (inr (o, size, n, inr (inl h))) =
      let within = h.3.0 in
      let w : nat_lt h.0 (length (segment S h.1)) ≡ true = grind (arith, nat_tests) in
      let x : nat_lt h.1 (length S) ≡ true = grind (arith, nat_tests, exists_if S h.1 h.0 within) in
      inr (h.2.0, record { pointer = pointers.Far false h.0 h.1; target = record { kind = kinds.List size n; segment = h.1; start = start_of h.0 o }; size = size; number = n; says = h.2.1; found = rw (x, w, h.3.1) refl; is_list = refl })
  no_struct (inr (o, size, n, inr (inr h))) =
      let within = h.7.0 in
      let w : nat_lt (h.0 + 1) (length (segment S h.1)) ≡ true = grind (arith, nat_tests) in
      let x : nat_lt h.1 (length S) ≡ true = grind (arith, nat_tests, exists_if S h.1 (h.0 + 1) within) in
      let y : nat_lt h.3 (length S) ≡ true = grind (arith, nat_tests, h.6) in
      inr (h.4.0, record { pointer = pointers.Far true h.0 h.1; target = record { kind = kinds.List size n; segment = h.3; start = Some h.2 }; size = size; number = n; says = h.4.1; found = rw (x, w, h.5.1, h.7.1, h.8, y) refl; is_list = refl })

  -- where the root has a target of another kind, or none, it leads to a struct or nowhere
  no_list : (r : Pointer) → root_pointer ≡ Some r → ((x : ℕ) → r ≡ pointers.Cap x → ⊥) → ((target : PointerTarget) (size : ElementSize) (n : ℕ) → target_by top S r ≡ Ok target → target.kind ≡ kinds.List size n → ⊥) → RootIsNoStruct S → ⊥
  no_list r says no_cap none h = go (no_struct h)
    where
      go : ((0 < length (segment S 0)) × (i : ℕ) × (root_pointer ≡ Some (pointers.Cap i))) ⊎ ((0 < length (segment S 0)) × ListLed) → ⊥
      go (inl c) = let same : ◌≡◌ {A = Option Pointer} (Some r) (Some (pointers.Cap c.1)) = sym says ∙ c.2 in no_cap c.1 cc
      go (inr c) =
          let l = c.1 in
          let same : ◌≡◌ {A = Option Pointer} (Some l.pointer) (Some r) = sym l.says ∙ says in
          let is : l.pointer ≡ r = cc in
          none l.target l.size l.number (subst (λ x. target_by top S x ≡ Ok l.target) is l.found) l.is_list

  root_some : 0 < length (segment S 0) → root_of limits.nesting limits.traversal S ≡ root_by (kids_at limits.nesting S) S limits.traversal root_pointer
  unfolding root_of
  root_some within = let some : (length (segment S 0) == 0) ≡ false = grind (arith, nat_tests) in rw some

  -- a root that leads to no struct
  no_struct_stops : RootIsNoStruct S → root_of limits.nesting limits.traversal S ≡ Err (faults.RootKind top)
  no_struct_stops h = go (no_struct h)
    where
      go : ((0 < length (segment S 0)) × (i : ℕ) × (root_pointer ≡ Some (pointers.Cap i))) ⊎ ((0 < length (segment S 0)) × ListLed) → root_of limits.nesting limits.traversal S ≡ Err (faults.RootKind top)
      go (inl c) = root_some c.0 ∙ ap (root_by (kids_at limits.nesting S) S limits.traversal) c.2
      go (inr c) =
          let l = c.1 in
          root_some c.0
          ∙ ap (root_by (kids_at limits.nesting S) S limits.traversal) l.says
          ∙ root_led limits.nesting limits.traversal S l.pointer l.target l.found
          ∙ ap (λ k. rooted k (read_of l.target)) l.is_list

  -- a fault of the root's word, or below it
  root_stops : (e : TreeFault) → ¬ (RootIsNoStruct S) → tree_at limits.nesting S 0 0 limits.traversal ≡ Err e → root_of limits.nesting limits.traversal S ≡ Err e
  unfolding root_of pointer_of
  root_stops e struct h = empty (length (segment S 0) == 0) refl
    where
      kind_stops : 0 < length (segment S 0) → (r : Pointer) → root_pointer ≡ Some r → (target : PointerTarget) → target_by top S r ≡ Ok target → (k : BodyKind) → target.kind ≡ k → read_of target ≡ Err e → rooted k (read_of target) ≡ Err e
      kind_stops within r says target found (kinds.List size n) is f = absurd (struct (root_list S limits r target size n (within, says) found is))
      kind_stops within r says target found (kinds.Struct d n) is f = rw f

      target_stops : 0 < length (segment S 0) → (r : Pointer) → root_pointer ≡ Some r → (x : Result PointerTarget TreeFault) → target_by top S r ≡ x → (x >>= area_by top S >>= body_by top (kids_at limits.nesting S) S limits.traversal) ≡ Err e → (x >>= λ target. rooted target.kind (read_of target)) ≡ Err e
      target_stops within r says (Err d) found f = ap (λ c. Err c) (err_is f)
      target_stops within r says (Ok target) found f = kind_stops within r says target found target.kind refl f

      kinds_stop : 0 < length (segment S 0) → (o : Option Pointer) → root_pointer ≡ o → pointer_by top (kids_at limits.nesting S) S limits.traversal o ≡ Err e → root_by (kids_at limits.nesting S) S limits.traversal o ≡ Err e
      kinds_stop within None says f = ap (λ c. Err c) (err_is f)
      kinds_stop within (Some pointers.Null) says f = cc
      kinds_stop within (Some (pointers.Cap i)) says f = cc
      kinds_stop within (Some (pointers.Struct o d n)) says f = target_stops within (pointers.Struct o d n) says (target_by top S (pointers.Struct o d n)) refl f
      kinds_stop within (Some (pointers.List o size n)) says f = target_stops within (pointers.List o size n) says (target_by top S (pointers.List o size n)) refl f
      kinds_stop within (Some (pointers.Far double place other)) says f = target_stops within (pointers.Far double place other) says (target_by top S (pointers.Far double place other)) refl f

      empty : (b : Bool) → (length (segment S 0) == 0) ≡ b → cond b (Err (faults.NoRoot top)) (root_by (kids_at limits.nesting S) S limits.traversal root_pointer) ≡ Err e
      empty true t =
          let none : length (segment S 0) ≤ 0 = grind (arith, nat_tests) in
          let zero_word : slice_index (segment S 0) 0 ≡ 0 = get_or_past (segment S 0) 0 0 none in
          let read : pointer_by top (kids_at limits.nesting S) S limits.traversal (Some pointers.Null) ≡ Err e = rw zero_word at h in
          cc
      empty false t = kinds_stop (grind (arith, nat_tests)) root_pointer refl h

  -- the first fault is met
  pub first_is_met : (e : TreeFault) → IsFirstFault S limits e → root_of limits.nesting limits.traversal S ≡ Err e
  unfolding root_of
  first_is_met e (no_root (inl none)) = let t : (length (segment S 0) == 0) ≡ true = grind (arith, nat_tests) in rw t
  first_is_met e (no_root (inr null)) = root_some null.0 ∙ ap (root_by (kids_at limits.nesting S) S limits.traversal) null.1
  first_is_met e (root_kind h) = no_struct_stops h
  first_is_met e (first struct at_root) = root_stops e struct (first_read S e 0 0 limits.nesting limits.traversal at_root)

  -- and what is met is the first
  pub met_is_first : (e : TreeFault) → root_of limits.nesting limits.traversal S ≡ Err e → IsFirstFault S limits e
  unfolding root_of
  met_is_first e h = empty (length (segment S 0) == 0) refl h
    where
      of_kind : 0 < length (segment S 0) → (r : Pointer) → root_pointer ≡ Some r → ((x : ℕ) → r ≡ pointers.Cap x → ⊥) → (target : PointerTarget) → target_by top S r ≡ Ok target → (k : BodyKind) → target.kind ≡ k → rooted k (read_of target) ≡ Err e → IsFirstFault S limits e
      of_kind within r says no_cap target found (kinds.List size n) is f = subst (IsFirstFault S limits) (err_is f) (root_kind (root_list S limits r target size n (within, says) found is))
      of_kind within r says no_cap target found (kinds.Struct d n) is f = go (bind_err (read_of target) _ e f)
        where
          other : (t : PointerTarget) (size : ElementSize) (m : ℕ) → target_by top S r ≡ Ok t → t.kind ≡ kinds.List size m → ⊥
          other t size m g k =
              let same : ◌≡◌ {A = Result PointerTarget TreeFault} (Ok target) (Ok t) = sym found ∙ g in
              let same_target : target ≡ t = cc in
              let wrong : kinds.Struct d n ≡ kinds.List size m = sym is ∙ ap (λ (a : PointerTarget). a.kind) same_target ∙ k in
              cc

          go : (read_of target ≡ Err e) ⊎ ((x : Node × ℕ) × (read_of target ≡ Ok x) × (◌≡◌ {A = Result Node TreeFault} (Ok x.0) (Err e))) → IsFirstFault S limits e
          go (inr g) = let wrong = g.2 in cc
          go (inl g) =
              let same : tree_at limits.nesting S 0 0 limits.traversal ≡ read_of target = rw says (target_found top (kids_at limits.nesting S) S limits.traversal r target found) in
              first (no_list r says no_cap other) (first_met limits.nesting S 0 0 limits.traversal e within (same ∙ g))

      has_target : 0 < length (segment S 0) → (r : Pointer) → root_pointer ≡ Some r → (((x : ℕ) → r ≡ pointers.Cap x → ⊥) × (r ≡ pointers.Null → ⊥)) → (target_by top S r >>= λ target. rooted target.kind (read_of target)) ≡ Err e → IsFirstFault S limits e
      has_target within r says kind f = go (bind_err (target_by top S r) _ e f)
        where
          go : (target_by top S r ≡ Err e) ⊎ ((x : PointerTarget) × (target_by top S r ≡ Ok x) × (rooted x.kind (read_of x) ≡ Err e)) → IsFirstFault S limits e
          go (inl g) =
              first (no_list r says kind.0 (λ t size m k is. let wrong : ◌≡◌ {A = Result PointerTarget TreeFault} (Ok t) (Err e) = sym k ∙ g in cc))
              (own (by_itself S 0 0 limits.nesting limits.traversal e (target_fails S 0 0 r e (within, says) g kind)))
          go (inr g) = of_kind within r says kind.0 g.0 g.1 g.0.kind refl g.2

      kinds : 0 < length (segment S 0) → (o : Option Pointer) → root_pointer ≡ o → root_by (kids_at limits.nesting S) S limits.traversal o ≡ Err e → IsFirstFault S limits e
      kinds within None is f = subst (IsFirstFault S limits) (err_is f) (first (λ k. none_led is (no_struct k)) (own (refl, is)))
        where
          none_led : root_pointer ≡ None → ((0 < length (segment S 0)) × (i : ℕ) × (root_pointer ≡ Some (pointers.Cap i))) ⊎ ((0 < length (segment S 0)) × ListLed) → ⊥
          none_led is (inl c) = let wrong : ◌≡◌ {A = Option Pointer} None (Some (pointers.Cap c.1)) = sym is ∙ c.2 in cc
          none_led is (inr c) = let l = c.1 in let wrong : ◌≡◌ {A = Option Pointer} None (Some l.pointer) = sym is ∙ l.says in cc
      kinds within (Some pointers.Null) is f = subst (IsFirstFault S limits) (err_is f) (no_root (inr (within, is)))
      kinds within (Some (pointers.Cap i)) is f = subst (IsFirstFault S limits) (err_is f) (root_kind (inl (i, (within, is))))
      kinds within (Some (pointers.Struct o d n)) is f = has_target within (pointers.Struct o d n) is (λ x h. cc, λ h. cc) f
      kinds within (Some (pointers.List o size n)) is f = has_target within (pointers.List o size n) is (λ x h. cc, λ h. cc) f
      kinds within (Some (pointers.Far double place other)) is f = has_target within (pointers.Far double place other) is (λ x h. cc, λ h. cc) f

      empty : (b : Bool) → (length (segment S 0) == 0) ≡ b → cond b (Err (faults.NoRoot top)) (root_by (kids_at limits.nesting S) S limits.traversal root_pointer) ≡ Err e → IsFirstFault S limits e
      empty true t f = subst (IsFirstFault S limits) (err_is f) (no_root (inl (grind (arith, nat_tests))))
      empty false t f = kinds (grind (arith, nat_tests)) root_pointer refl f
