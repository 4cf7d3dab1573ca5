-- The message's tree, as a relation and as a function.
use Rattle.std.proofs.Common.{◌≡◌, ℕ, ◌+◌, ◌<◌, ◌==◌, List, length, Option, Some, None, Result, Ok, Err, false, slice_index, refl, sym, ap, ◌∙◌, subst, inl, inr, arith}
use Rattle.std.proofs.lemmas.Bool.Decides.{nat_tests}
use Rattle.cp_words.specs.Limits.{Bounds}
use Rattle.cp_words.specs.Word.{pointer_of}
use Rattle.cp_words.specs.declared.pointer.Pointer.{Pointer}
use Rattle.cp_words.specs.declared.pointer.Pointer.TheVariants as pointers
use Rattle.cp_tree.specs.Node.{Node, null, cap, struct, list, ptrs, structs, count, IsStruct}
use Rattle.cp_words.specs.Targets.{segment, HasTarget}
use Rattle.cp_reading.specs.Denotes.{Root}
use Rattle.cp_reading.specs.Near.{Near}
use Rattle.cp_reading.specs.Reading.{◌>>=◌, Read, Kids, target_by, area_by, area_by_kind, placed, in_segment, charged, filled, body_by, tree_at, kids_at, rooted, root_by, root_of, top}
use Rattle.cp_reading.specs.Visited.{passed}
use Rattle.cp_reading.specs.declared.target.PointerTarget.{PointerTarget}
use Rattle.cp_words.specs.declared.kind.BodyKind.{BodyKind}
use Rattle.cp_words.specs.declared.kind.BodyKind.TheVariants as kinds
use Rattle.cp_reading.specs.declared.area.Area.{Area}
use Rattle.cp_reading.specs.declared.area.Form.TheVariants as forms
use Rattle.cp_reading.specs.declared.fault.TreeFault.{TreeFault}
use Rattle.cp_reading.proofs.Checks.{target_found}
use Rattle.cp_reading.proofs.Complete.{Found, target_is_found, complete}
use Rattle.cp_reading.proofs.Sound.{sound, ok_is, bind_ok, not_stopped}

-- a word that aims at a body stands in its segment
stands_within : (S : List (List ℕ)) (s' start : ℕ) (k : BodyKind) → HasTarget S 0 0 k s' start → 0 < length (segment S 0)
stands_within S s' start k (inl a) = a.0.stands.0
stands_within S s' start k (inr (inl a)) = a.stands.0
stands_within S s' start k (inr (inr a)) = a.stands.0

-- a body of a struct's form is read as a struct
struct_is : (kids : Kids) (S : List (List ℕ)) (d n s q budget : ℕ) (x : Node × ℕ) → filled kids S (forms.Struct d n) s q budget ≡ Ok x → IsStruct x.0
struct_is kids S d n s q budget x e =
    let k = bind_ok (kids s n (q + d) budget) _ x e in
    subst (λ (y : Node × ℕ). IsStruct y.0) (ok_is k.2) tt

module _ (n b : ℕ) (S : List (List ℕ)) where
  -- the body of a struct pointer is read as a struct
  kind_is : (s d c : ℕ) (o : Option ℕ) (x : Node × ℕ) → (area_by_kind top (segment S s) s o (kinds.Struct d c) >>= body_by top (kids_at n S) S b) ≡ Ok x → IsStruct x.0
  kind_is s d c o x e =
      let j = bind_ok (area_by_kind top (segment S s) s o (kinds.Struct d c)) (body_by top (kids_at n S) S b) x e in
      let k = bind_ok (placed top (in_segment (segment S s) (d + c) o)) _ j.0 j.1 in
      let read = subst (λ (a : Area). body_by top (kids_at n S) S b a ≡ Ok x) (sym (ok_is k.2)) j.2 in
      let into = bind_ok (charged top (kids_at n S) (1 + d + c) b) _ x read in
      struct_is into.0.0 S d c s k.0 into.0.1 x into.2

  -- what a tree that is given says of the root word
  pub root_found : (limits : Bounds) (t : Node) → limits.nesting ≡ n → limits.traversal ≡ b → root_of n b S ≡ Ok t → Root S limits t
  unfolding root_of
  root_found limits t deep dear e =
      let k = not_stopped (length (segment S 0) == 0) _ _ t e in
      kinds (grind (arith, nat_tests, k.0)) (pointer_of (slice_index (segment S 0) 0)) refl k.1
    where
      took : 0 < length (segment S 0) → (x : Node × ℕ) → IsStruct x.0 → tree_at n S 0 0 b ≡ Ok x → x.0 ≡ t → Root S limits t
      took within x struct' e is =
          let r = sound n S 0 0 b x within e in
          subst (Root S limits) is (record { denoted = r.denoted; is_struct = struct'; not_deeper = rw deep r.nests; not_dearer = rw dear (omega (arith, r.costs)) })

      of_kind : 0 < length (segment S 0) → (target : PointerTarget) (k : BodyKind) → target.kind ≡ k → tree_at n S 0 0 b ≡ (area_by top S target >>= body_by top (kids_at n S) S b) → rooted k (area_by top S target >>= body_by top (kids_at n S) S b) ≡ Ok t → Root S limits t
      of_kind within target (kinds.Struct d c) is same e =
          let x = bind_ok (area_by top S target >>= body_by top (kids_at n S) S b) (λ x. Ok x.0) t e in
          let read = subst (λ (k : BodyKind). (area_by_kind top (segment S target.segment) target.segment target.start k >>= body_by top (kids_at n S) S b) ≡ Ok x.0) is x.1 in
          took within x.0 (kind_is target.segment d c target.start x.0 read) (same ∙ x.1) (ok_is x.2)
      of_kind within target (kinds.List size c) is same e = cc

      has_target : 0 < length (segment S 0) → (r : Pointer) → pointer_of (slice_index (segment S 0) 0) ≡ Some r → (target_by top S r >>= λ target. rooted target.kind (area_by top S target >>= body_by top (kids_at n S) S b)) ≡ Ok t → Root S limits t
      has_target within r says e =
          let k = bind_ok (target_by top S r) _ t e in
          let same : tree_at n S 0 0 b ≡ (area_by top S k.0 >>= body_by top (kids_at n S) S b) = rw says (target_found top (kids_at n S) S b r k.0 k.1) in
          of_kind within k.0 k.0.kind refl same k.2

      kinds : 0 < length (segment S 0) → (o : Option Pointer) → pointer_of (slice_index (segment S 0) 0) ≡ o → root_by (kids_at n S) S b o ≡ Ok t → Root S limits t
      kinds within None is e = cc
      kinds within (Some pointers.Null) is e = cc
      kinds within (Some (pointers.Cap i)) is e = cc
      kinds within (Some (pointers.Struct offset d k)) is e = has_target within (pointers.Struct offset d k) is e
      kinds within (Some (pointers.List offset size k)) is e = has_target within (pointers.List offset size k) is e
      kinds within (Some (pointers.Far double place other)) is e = has_target within (pointers.Far double place other) is e

  -- the root word's pointer leads to its body
  pub root_led : (r : Pointer) (target : PointerTarget) → target_by top S r ≡ Ok target → root_by (kids_at n S) S b (Some r) ≡ rooted target.kind (area_by top S target >>= body_by top (kids_at n S) S b)
  root_led pointers.Null target h = cc
  root_led (pointers.Cap i) target h = cc
  root_led (pointers.Struct o d c) target h = ap (λ q. q >>= λ a. rooted a.kind (area_by top S a >>= body_by top (kids_at n S) S b)) h
  root_led (pointers.List o size c) target h = ap (λ q. q >>= λ a. rooted a.kind (area_by top S a >>= body_by top (kids_at n S) S b)) h
  root_led (pointers.Far double place other) target h = ap (λ q. q >>= λ a. rooted a.kind (area_by top S a >>= body_by top (kids_at n S) S b)) h

  -- the root word's struct body, step by step
  pub root_steps : (r : Pointer) (target : PointerTarget) (d c : ℕ) (a : Area) → 0 < length (segment S 0) → pointer_of (slice_index (segment S 0) 0) ≡ Some r → target_by top S r ≡ Ok target
      → target.kind ≡ kinds.Struct d c → area_by top S target ≡ Ok a → root_of n b S ≡ (body_by top (kids_at n S) S b a >>= λ x. Ok x.0)
  unfolding root_of
  root_steps r target d c a within says has_target kind area =
      let some : (length (segment S 0) == 0) ≡ false = grind (arith, nat_tests) in
      rw (some, says) (root_led r target has_target
      ∙ ap (λ (k : BodyKind). rooted k (area_by top S target >>= body_by top (kids_at n S) S b)) kind
      ∙ ap (λ (q : Result Area TreeFault). q >>= body_by top (kids_at n S) S b >>= λ x. Ok x.0) area)

  module _ (w : ℕ) (target : PointerTarget) (d c : ℕ) (within : 0 < length (segment S 0)) (stands : slice_index (segment S 0) 0 ≡ w) (near : Near top w target) (kind : target.kind ≡ kinds.Struct d c) where
    -- the body of a root word that is a struct word
    pub root_near : (a : Area) → area_by top S target ≡ Ok a → root_of n b S ≡ (body_by top (kids_at n S) S b a >>= λ x. Ok x.0)
    root_near a area = root_steps near.pointer target d c a within (ap pointer_of stands ∙ near.says) (near.has_target S) kind area

    pub root_near_fails : (e : TreeFault) → area_by top S target ≡ Err e → root_of n b S ≡ Err e
    unfolding root_of
    root_near_fails e area =
        let some : (length (segment S 0) == 0) ≡ false = grind (arith, nat_tests) in
        let says : pointer_of (slice_index (segment S 0) 0) ≡ Some near.pointer = ap pointer_of stands ∙ near.says in
        rw (some, says) (root_led near.pointer target (near.has_target S)
        ∙ ap (λ (k : BodyKind). rooted k (area_by top S target >>= body_by top (kids_at n S) S b)) kind
        ∙ ap (λ (q : Result Area TreeFault). q >>= body_by top (kids_at n S) S b >>= λ x. Ok x.0) area)

  -- the message's tree is given
  pub root_given : (limits : Bounds) (t : Node) → limits.nesting ≡ n → limits.traversal ≡ b → Root S limits t → root_of n b S ≡ Ok t
  unfolding root_of Found
  root_given limits null deep dear r = absurd r.is_struct
  root_given limits (cap i) deep dear r = absurd r.is_struct
  root_given limits (list es) deep dear r = absurd r.is_struct
  root_given limits (ptrs ts) deep dear r = absurd r.is_struct
  root_given limits (structs d c bs) deep dear r = absurd r.is_struct
  root_given limits (struct ws ts) deep dear r =
      let d = r.denoted in
      let a = target_is_found S 0 0 (kinds.Struct (length ws) (count ts)) d.0 d.1 d.2.has_target in
      let target : PointerTarget = record { kind = kinds.Struct (length ws) (count ts); segment = d.0; start = Some d.1 } in
      let within = stands_within S d.0 d.1 (kinds.Struct (length ws) (count ts)) d.2.has_target in
      let some : (length (segment S 0) == 0) ≡ false = grind (arith, nat_tests) in
      let read = complete (struct ws ts) n S 0 0 b d (rw (← deep) r.not_deeper) (rw (← dear) r.not_dearer) in
      let same : tree_at n S 0 0 b ≡ (area_by top S target >>= body_by top (kids_at n S) S b) = rw a.1 (target_found top (kids_at n S) S b a.0 target a.2) in
      rw (some, a.1) (root_led a.0 target a.2 ∙ ap (λ q. q >>= λ x. Ok x.0) (sym same ∙ read))

-- a fault of a check is one of reading
pub read_fault : {A : Type 0} (visited : A → ℕ) (before : ℕ) (r : Read A) (d : TreeFault) → passed visited before r ≡ Err d → r ≡ Err d
read_fault visited before (Ok x) d e = cc
read_fault visited before (Err c) d e = let is : c ≡ d = cc in rw is refl
