-- What a fault of reading the message's tree says.
use Rattle.std.proofs.Common.{◌≡◌, ℕ, zero, suc, ◌+◌, ◌<◌, ◌==◌, ℤ, pos, negsuc, List, length, Option, Some, None, Result, Ok, Err, Bool, true, false, nat_lt, cond, slice_index, refl, ap, subst, inl, inr, ◌⊎◌, ◌∙◌, arith}
use Rattle.std.proofs.lemmas.Bool.Decides.{nat_tests}
use Rattle.cp_words.specs.Limits.{Bounds}
use Rattle.cp_words.specs.Word.{pointer_of}
use Rattle.cp_words.specs.declared.pointer.ElementSize.{ElementSize}
use Rattle.cp_words.specs.declared.pointer.Pointer.{Pointer}
use Rattle.cp_words.specs.declared.pointer.Pointer.TheVariants as pointers
use Rattle.cp_tree.specs.Node.{Node, null, cap, struct, list, ptrs, structs, depth, cost}
use Rattle.cp_words.specs.Targets.{segment, Holds}
use Rattle.cp_reading.specs.Faults.{FaultBy, RootIsNoStruct, IsFaultOf}
use Rattle.cp_reading.specs.Pruned.{Prunes, Pruned, root}
use Rattle.cp_reading.specs.Reading.{◌>>=◌, Read, tag_kind_of, target_here, target_second, target_by_two, or_bad_pad, target_by_one, target_by, area_by, body_by, kids_at, tree_at, rooted, root_by, root_of, top}
use Rattle.cp_reading.specs.declared.target.PointerTarget.{PointerTarget}
use Rattle.cp_words.specs.declared.kind.BodyKind.{BodyKind}
use Rattle.cp_words.specs.declared.kind.BodyKind.TheVariants as kinds
use Rattle.cp_reading.specs.declared.fault.TreeFault.{TreeFault}
use Rattle.cp_reading.specs.declared.fault.TreeFault.TheVariants as faults
use Rattle.cp_reading.proofs.Checks.{target_found}
use Rattle.cp_reading.proofs.Faulted.{Deep, Dear, FaultBy-map, by_word, faulted}
use Rattle.cp_reading.proofs.WrongTargets.{bind_err, err_is, target_fails}
use Rattle.cp_reading.proofs.Sound.{ok_is, passed}
use Rattle.cp_reading.proofs.Views.{some_is}

-- a tree of some depth or cost isn't left out
prunes_root : (S : List (List ℕ)) (t : Node) → Prunes S 0 0 t → (t ≡ null → ⊥) → Pruned S t
prunes_root S null h some = absurd (some refl)
prunes_root S (cap i) h some = h
prunes_root S (struct ws ts) h some = h
prunes_root S (list es) h some = h
prunes_root S (ptrs ts) h some = h
prunes_root S (structs d n bs) h some = h

module _ (S : List (List ℕ)) (limits : Bounds) where
  deep_root : Deep S 0 0 limits.nesting → (t : Node) × Pruned S t × (limits.nesting < depth t)
  unfolding Deep
  deep_root h = (h.0, prunes_root S h.0 h.1 (λ is. let none : depth h.0 ≡ 0 = rw is refl in absurd (omega (arith, h.2, none))), h.2)

  dear_root : Dear S 0 0 limits.traversal → (t : Node) × Pruned S t × (limits.traversal < cost t)
  unfolding Dear
  dear_root h = (h.0, prunes_root S h.0 h.1 (λ is. let none : cost h.0 ≡ 0 = rw is refl in absurd (omega (arith, h.2, none))), h.2)

  is_fault : (e : TreeFault) → FaultBy S ((t : Node) × Pruned S t × (limits.nesting < depth t)) ((t : Node) × Pruned S t × (limits.traversal < cost t)) e → IsFaultOf S limits e
  is_fault (faults.NoRoot at) h = absurd h
  is_fault (faults.RootKind at) h = absurd h
  is_fault (faults.OutOfBounds at) h = h
  is_fault (faults.NoSegment at) h = h
  is_fault (faults.BadPad at) h = h
  is_fault (faults.BadTag at) h = h
  is_fault (faults.BadCapability at) h = h
  is_fault (faults.NestingLimit at) h = h
  is_fault (faults.TraversalLimit at) h = h
  is_fault faults.OutOfMemory h = absurd h

  -- the root's pointer says a list
  here_list : (s p : ℕ) (r : Pointer) (target : PointerTarget) (size : ElementSize) (n : ℕ) → target_here s p r ≡ Some target → target.kind ≡ kinds.List size n → (o : ℤ) × (r ≡ pointers.List o size n)
  here_list s p pointers.Null target size n e k = cc
  here_list s p (pointers.Cap i) target size n e k = cc
  here_list s p (pointers.Far double place other) target size n e k = cc
  here_list s p (pointers.Struct o d m) target size n e k =
      let is : kinds.Struct d m ≡ target.kind = ap (λ (a : PointerTarget). a.kind) (some_is e) in
      let wrong : kinds.Struct d m ≡ kinds.List size n = is ∙ k in cc
  here_list s p (pointers.List o z m) target size n e k =
      let is : kinds.List z m ≡ kinds.List size n = ap (λ (a : PointerTarget). a.kind) (some_is e) ∙ k in
      let a : z ≡ size = cc in let b : m ≡ n = cc in (o, rw (a, b) refl)

  tag_list : (o : Option Pointer) (size : ElementSize) (n : ℕ) → tag_kind_of o ≡ Some (kinds.List size n) → o ≡ Some (pointers.List (pos 0) size n)
  tag_list None size n e = cc
  tag_list (Some pointers.Null) size n e = let wrong : kinds.Struct 0 0 ≡ kinds.List size n = some_is e in cc
  tag_list (Some (pointers.Cap i)) size n e = cc
  tag_list (Some (pointers.Far double x y)) size n e = cc
  tag_list (Some (pointers.Struct (pos zero) d m)) size n e = let wrong : kinds.Struct d m ≡ kinds.List size n = some_is e in cc
  tag_list (Some (pointers.Struct (pos (suc x)) d m)) size n e = cc
  tag_list (Some (pointers.Struct (negsuc x) d m)) size n e = cc
  tag_list (Some (pointers.List (pos zero) z m)) size n e =
      let is : kinds.List z m ≡ kinds.List size n = some_is e in
      let a : z ≡ size = cc in let b : m ≡ n = cc in rw (a, b) refl
  tag_list (Some (pointers.List (pos (suc x)) z m)) size n e = cc
  tag_list (Some (pointers.List (negsuc x) z m)) size n e = cc

  pub root_list : (r : Pointer) (target : PointerTarget) (size : ElementSize) (n : ℕ) → Holds S 0 0 r → target_by top S r ≡ Ok target → target.kind ≡ kinds.List size n → RootIsNoStruct S
  root_list pointers.Null target size n h e k = cc
  root_list (pointers.Cap i) target size n h e k = cc
  root_list (pointers.Struct o d m) target size n h e k = let r = here_list 0 0 (pointers.Struct o d m) target size n (ap (λ x. Some x) (ok_is e)) k in let wrong = r.1 in cc
  root_list (pointers.List o z m) target size n h e k =
      let r = here_list 0 0 (pointers.List o z m) target size n (ap (λ x. Some x) (ok_is e)) k in
      inr (r.0, size, n, inl (subst (Holds S 0 0) r.1 h))
  root_list (pointers.Far false place other) target size n h e k =
      let i = passed (nat_lt other (length S)) _ _ target e in
      let j = passed (nat_lt place (length (segment S other))) _ _ target i.1 in
      go (grind (arith, nat_tests, j.0)) (pointer_of (slice_index (segment S other) place)) refl j.1
    where
      padded : (o : Option PointerTarget) (r : Pointer) → place < length (segment S other) → pointer_of (slice_index (segment S other) place) ≡ Some r → target_here other place r ≡ o → or_bad_pad top o ≡ Ok target → RootIsNoStruct S
      padded None r within says g f = cc
      padded (Some a) r within says g f =
          let l = here_list other place r a size n g (ap (λ (x : PointerTarget). x.kind) (ok_is f) ∙ k) in
          inr (l.0, size, n, inr (inl (place, other, h, (within, says ∙ ap (λ x. Some x) l.1))))

      go : place < length (segment S other) → (o : Option Pointer) → pointer_of (slice_index (segment S other) place) ≡ o → target_by_one top other place o ≡ Ok target → RootIsNoStruct S
      go within None says f = cc
      go within (Some r) says f = padded (target_here other place r) r within says refl f
  root_list (pointers.Far true place other) target size n h e k =
      let i = passed (nat_lt other (length S)) _ _ target e in
      let j = passed (nat_lt (place + 1) (length (segment S other))) _ _ target i.1 in
      two (grind (arith, nat_tests, j.0)) (pointer_of (slice_index (segment S other) place)) refl j.1
    where
      second : (start s' : ℕ) → place + 1 < length (segment S other) → Holds S other place (pointers.Far false start s') → (o : Option BodyKind) → tag_kind_of (pointer_of (slice_index (segment S other) (place + 1))) ≡ o → target_second top S start s' o ≡ Ok target → RootIsNoStruct S
      second start s' within one None t f = cc
      second start s' within one (Some q) t f =
          let j = passed (nat_lt s' (length S)) _ _ target f in
          let is : q ≡ kinds.List size n = ap (λ (a : PointerTarget). a.kind) (ok_is j.1) ∙ k in
          let l = tag_list (pointer_of (slice_index (segment S other) (place + 1))) size n (t ∙ ap (λ x. Some x) is) in
          inr (pos 0, size, n, inr (inr (place, other, start, s', h, one, grind (arith, nat_tests, j.0), (within, l), refl)))

      two : place + 1 < length (segment S other) → (one : Option Pointer) → pointer_of (slice_index (segment S other) place) ≡ one → target_by_two top S one (pointer_of (slice_index (segment S other) (place + 1))) ≡ Ok target → RootIsNoStruct S
      two within None says f = cc
      two within (Some pointers.Null) says f = cc
      two within (Some (pointers.Cap i)) says f = cc
      two within (Some (pointers.Struct a d m)) says f = cc
      two within (Some (pointers.List a z m)) says f = cc
      two within (Some (pointers.Far true x y)) says f = cc
      two within (Some (pointers.Far false start s')) says f = second start s' within (omega (arith, within), says) (tag_kind_of (pointer_of (slice_index (segment S other) (place + 1)))) refl f

  -- what the root's body is read as
  abbrev read_of : PointerTarget → Read Node
  read_of target = area_by top S target >>= body_by top (kids_at limits.nesting S) S limits.traversal

  -- a fault of reading the message's tree is one that it has
  pub root_faulted : (e : TreeFault) → root_of limits.nesting limits.traversal S ≡ Err e → IsFaultOf S limits e
  unfolding root_of
  root_faulted e h = empty (length (segment S 0) == 0) refl h
    where
      of_kind : 0 < length (segment S 0) → (r : Pointer) → pointer_of (slice_index (segment S 0) 0) ≡ Some r → (target : PointerTarget) → target_by top S r ≡ Ok target → (k : BodyKind) → target.kind ≡ k → rooted k (read_of target) ≡ Err e → IsFaultOf S limits e
      of_kind within r says target has_target (kinds.List size n) is f = subst (IsFaultOf S limits) (err_is f) ((refl, refl), root_list r target size n (within, says) has_target is)
      of_kind within r says target has_target (kinds.Struct d n) is f = go (bind_err (read_of target) _ e f)
        where
          go : (read_of target ≡ Err e) ⊎ ((x : Node × ℕ) × (read_of target ≡ Ok x) × (◌≡◌ {A = Result Node TreeFault} (Ok x.0) (Err e))) → IsFaultOf S limits e
          go (inr g) = let wrong = g.2 in cc
          go (inl g) =
              let same : tree_at limits.nesting S 0 0 limits.traversal ≡ read_of target = rw says (target_found top (kids_at limits.nesting S) S limits.traversal r target has_target) in
              is_fault e (FaultBy-map S e deep_root dear_root (faulted limits.nesting S 0 0 limits.traversal e root within (same ∙ g)))

      has_target : 0 < length (segment S 0) → (r : Pointer) → pointer_of (slice_index (segment S 0) 0) ≡ Some r → (((x : ℕ) → r ≡ pointers.Cap x → ⊥) × (r ≡ pointers.Null → ⊥)) → (target_by top S r >>= λ target. rooted target.kind (read_of target)) ≡ Err e → IsFaultOf S limits e
      has_target within r says kind f = go (bind_err (target_by top S r) _ e f)
        where
          go : (target_by top S r ≡ Err e) ⊎ ((x : PointerTarget) × (target_by top S r ≡ Ok x) × (rooted x.kind (read_of x) ≡ Err e)) → IsFaultOf S limits e
          go (inl g) = is_fault e (by_word S 0 0 _ _ root e (target_fails S 0 0 r e (within, says) g kind))
          go (inr g) = of_kind within r says g.0 g.1 g.0.kind refl g.2

      kinds : 0 < length (segment S 0) → (o : Option Pointer) → pointer_of (slice_index (segment S 0) 0) ≡ o → root_by (kids_at limits.nesting S) S limits.traversal o ≡ Err e → IsFaultOf S limits e
      kinds within None is f = subst (IsFaultOf S limits) (err_is f) (root, is)
      kinds within (Some pointers.Null) is f = subst (IsFaultOf S limits) (err_is f) ((refl, refl), inr (within, is))
      kinds within (Some (pointers.Cap i)) is f = subst (IsFaultOf S limits) (err_is f) ((refl, refl), inl (i, (within, is)))
      kinds within (Some (pointers.Struct o d n)) is f = has_target within (pointers.Struct o d n) is (λ x h. cc, λ h. cc) f
      kinds within (Some (pointers.List o size n)) is f = has_target within (pointers.List o size n) is (λ x h. cc, λ h. cc) f
      kinds within (Some (pointers.Far double place other)) is f = has_target within (pointers.Far double place other) is (λ x h. cc, λ h. cc) f

      empty : (b : Bool) → (length (segment S 0) == 0) ≡ b → cond b (Err (faults.NoRoot top)) (root_by (kids_at limits.nesting S) S limits.traversal (pointer_of (slice_index (segment S 0) 0))) ≡ Err e → IsFaultOf S limits e
      empty true t f = subst (IsFaultOf S limits) (err_is f) ((refl, refl), inl (grind (arith, nat_tests)))
      empty false t f = kinds (grind (arith, nat_tests)) (pointer_of (slice_index (segment S 0) 0)) refl f
