-- What a view's body says of its parts.
use Rattle.std.proofs.Common.{◌≡◌, ℕ, zero, suc, ◌+◌, ◌-◌, ◌*◌, ◌/◌, ◌<◌, ◌≤◌, ◌^◌, List, length, Some, Result, Ok, Err, true, is_ok, refl, sym, ap, ◌∙◌, subst, arith}
use Rattle.std.proofs.Math.Nat.{mul-le-mul_left}
use Rattle.cp_words.specs.Word.{words_for}
use Rattle.cp_words.specs.declared.pointer.ElementSize.TheVariants as sizes
use Rattle.cp_words.specs.declared.pointer.Pointer.{Pointer}
use Rattle.cp_tree.specs.Node.{voids, Node, null, cap, struct, list, ptrs, structs, Nodes, no_nodes, node, Bodies, no_bodies, body, count, number_of, greatest_depth, deepest_body, cost, total_cost, body_cost}
use Rattle.cp_words.specs.Targets.{segment, words_at}
use Rattle.cp_reading.specs.Denotes.{EachDenotes, EachBody}
use Rattle.cp_reading.specs.Viewed.{form_shape_of, viewed_node, IsViewed}
use Rattle.cp_reading.specs.Reading.{◌>>=◌, pointer_read, area_here, Read, Kids, charged, filled, bodies_by, price, body_words, lent_words, IsWhole, IsWithin, IsRootArea, top, body_by, kids_at, rows_at, most_nesting, most_traversal, node_in, tree_read, area_read}
use Rattle.cp_tree.specs.Seen.{shape_of, node_at, body_at, part_of, AreWordsOf}
use Rattle.cp_reading.specs.declared.area.Area.{Area}
use Rattle.cp_reading.specs.declared.area.Form.{Form}
use Rattle.cp_reading.specs.declared.area.Form.TheVariants as forms
use Rattle.cp_words.specs.declared.place.Place.{Place}
use Rattle.cp_reading.specs.declared.fault.TreeFault.{TreeFault}
use Rattle.cp_reading.specs.declared.view.Viewed.{Viewed}
use Rattle.cp_reading.specs.declared.view.Viewed.TheVariants as viewed
use Rattle.cp_reading.proofs.Complete.{complete, fills_read}
use Rattle.cp_reading.specs.Fills.{IsBody, form_of, Fills}
use Rattle.cp_reading.proofs.Fills.{inner_depth, inner_cost}
use Rattle.cp_reading.proofs.Sound.{ReadsBody, elements-made, width, bind_ok, ok_is, within_sound, charged_is}

-- a reading that went well
pub ok_of : {A : Type 0} (r : Result A TreeFault) → is_ok r ≡ true → (x : A) × (r ≡ Ok x)
ok_of (Ok x) e = (x, refl)
ok_of (Err d) e = cc

pub ok_is_ok : {A : Type 0} (r : Result A TreeFault) (x : A) → r ≡ Ok x → is_ok r ≡ true
ok_is_ok (Ok y) x e = refl
ok_is_ok (Err d) x e = cc

-- what a body of a view says
pub area_reads : (S : List (List ℕ)) (a : Area) → IsWithin S a → is_ok (area_read S a) ≡ true → (x : Node × ℕ) × (area_read S a ≡ Ok x) × ReadsBody S a.segment most_nesting a.start most_traversal a.form x
area_reads S a w e =
    let k = ok_of (area_read S a) e in
    (k.0, k.1, within_sound most_nesting S a.segment a.start most_traversal a.form k.0 w.1 w.2 k.1)

pub some_is : {A : Type 0} {x y : A} → Some x ≡ Some y → x ≡ y
some_is e = cc

-- A body that was paid for is read within the greatest limits too.
pub body_again : (S : List (List ℕ)) (at : Place) (n budget : ℕ) (a : Area) (x : Node × ℕ) → n ≤ most_nesting → budget ≤ most_traversal → IsWithin S a → body_by at (kids_at n S) S budget a ≡ Ok x
    → area_read S a ≡ Ok (x.0, most_traversal - inner_cost x.0)
unfolding kids_at
body_again S at zero budget a x deep dear w e = cc
body_again S at (suc m) budget a x deep dear w e =
    let into = bind_ok (charged at (Some (rows_at m S)) (price a.form) budget) _ x e in
    let paid = charged_is at (Some (rows_at m S)) (price a.form) budget into.0 into.1 in
    let same : rows_at m S ≡ into.0.0 = some_is paid.0 in
    let read = subst (λ (k : Kids). filled k S a.form a.segment a.start into.0.1 ≡ Ok x) (sym same) into.2 in
    let b = within_sound m S a.segment a.start into.0.1 a.form x w.1 w.2 read in
    let reborrow = fills_read x.0 most_nesting S a.segment a.start most_traversal b.fills (omega (arith, b.nests)) (omega (arith, b.costs, paid.1)) in
    subst (λ f. filled (rows_at most_nesting S) S f a.segment a.start most_traversal ≡ Ok (x.0, most_traversal - inner_cost x.0)) b.form reborrow

-- the root's body is read within the greatest limits too
pub root_again : (n b : ℕ) (S : List (List ℕ)) (a : Area) (r : IsRootArea n b S a) → n ≤ 256 → b ≤ 67108864 → area_read S a ≡ Ok (r.tree, most_traversal - inner_cost r.tree)
unfolding most_nesting most_traversal
root_again n b S a r deep dear = body_again S top n b a (r.tree, r.budget) deep dear r.within r.body

pub node_at-past : (ts : Nodes) (i : ℕ) → count ts ≤ i → node_at ts i ≡ null
node_at-past no_nodes i past = refl
node_at-past (node t ts) zero past = absurd (omega arith)
node_at-past (node t ts) (suc i) past = node_at-past ts i (omega arith)

pub body_at-past : (bs : Bodies) (i : ℕ) → number_of bs ≤ i → body_at bs i ≡ null
body_at-past no_bodies i past = refl
body_at-past (body ws ts bs) zero past = absurd (omega arith)
body_at-past (body ws ts bs) (suc i) past = body_at-past bs i (omega arith)

-- a pointer of a row is read by itself
pub row_part : (S : List (List ℕ)) (s p : ℕ) (ts : Nodes) (i : ℕ) → i < count ts → EachDenotes S s p ts → greatest_depth ts ≤ most_nesting → total_cost ts ≤ most_traversal
    → (budget : ℕ) × (tree_read S s (p + i) ≡ Ok (node_at ts i, budget))
row_part S s p no_nodes i within h deep dear = absurd (omega arith)
row_part S s p (node t ts) zero within h deep dear =
    let e : p + 0 ≡ p = omega arith in
    (most_traversal - cost t, rw e (complete t most_nesting S s p most_traversal h.0 (omega (arith, deep)) (omega (arith, dear))))
row_part S s p (node t ts) (suc i) within h deep dear =
    let e : p + suc i ≡ p + 1 + i = omega arith in
    let k = row_part S s (p + 1) ts i (omega arith) h.1 (omega (arith, deep)) (omega (arith, dear)) in
    (k.0, rw e k.1)

-- an element of a composite list stands by itself
pub element_part : (S : List (List ℕ)) (s q d n : ℕ) (bs : Bodies) (i : ℕ) → i < number_of bs → EachBody S s q d n bs
    → Fills S s (q + i * (d + n)) (body_at bs i) × (form_of (body_at bs i) ≡ forms.Struct d n) × (inner_depth (body_at bs i) ≤ deepest_body bs) × (inner_cost (body_at bs i) ≤ body_cost bs)
element_part S s q d n no_bodies i within h = absurd (omega arith)
element_part S s q d n (body ws ts bs) zero within h =
    let e : q + 0 * (d + n) ≡ q = omega arith in
    (rw (e, h.0) (h.2, h.3), rw (h.0, h.1) refl, omega arith, omega arith)
element_part S s q d n (body ws ts bs) (suc i) within h =
    let e : q + suc i * (d + n) ≡ q + d + n + i * (d + n) = omega arith in
    let k = element_part S s (q + d + n) d n bs i (omega arith) h.4 in
    (rw e k.0, k.1, omega (arith, k.2), omega (arith, k.3))

-- how many parts a body has
abbrev pub parts_of : Form → ℕ
parts_of (forms.Struct d n) = n
parts_of (forms.List sizes.Pointer n) = n
parts_of (forms.List size n) = 0
parts_of (forms.Structs d n k) = k

-- What a body's tree says, by its form.
module _ (S : List (List ℕ)) (s q : ℕ) where
  struct_part : (t : Node) (d n i : ℕ) → Fills S s q t → IsBody t → form_of t ≡ forms.Struct d n → inner_depth t ≤ most_nesting → inner_cost t ≤ most_traversal → i < n
      → (budget : ℕ) × (tree_read S s (q + d + i) ≡ Ok (part_of t i, budget))
  struct_part null d n i h b f deep dear within = absurd b
  struct_part (cap k) d n i h b f deep dear within = absurd b
  struct_part (list es) d n i h b f deep dear within = cc
  struct_part (ptrs ts) d n i h b f deep dear within = cc
  struct_part (structs x y bs) d n i h b f deep dear within = cc
  struct_part (struct ws ts) d n i h b f deep dear within =
      let wide : length ws ≡ d = cc in
      let many : count ts ≡ n = cc in
      rw (← wide) (row_part S s (q + length ws) ts i (rw many within) h.1 deep dear)

  pointer_part : (t : Node) (n i : ℕ) → Fills S s q t → IsBody t → form_of t ≡ forms.List sizes.Pointer n → inner_depth t ≤ most_nesting → inner_cost t ≤ most_traversal → i < n
      → (budget : ℕ) × (tree_read S s (q + i) ≡ Ok (part_of t i, budget))
  pointer_part null n i h b f deep dear within = absurd b
  pointer_part (cap k) n i h b f deep dear within = absurd b
  pointer_part (struct ws ts) n i h b f deep dear within = cc
  pointer_part (list (voids k)) n i h b f deep dear within = cc
  pointer_part (list es) n i h b f deep dear within = cc
  pointer_part (structs x y bs) n i h b f deep dear within = cc
  pointer_part (ptrs ts) n i h b f deep dear within =
      let many : count ts ≡ n = cc in
      row_part S s q ts i (rw many within) h deep dear

  element_of : (t : Node) (d n k i : ℕ) → Fills S s q t → IsBody t → form_of t ≡ forms.Structs d n k → inner_depth t ≤ most_nesting → inner_cost t ≤ most_traversal → i < k
      → (budget : ℕ) × (area_read S (record { form = forms.Struct d n; segment = s; start = q + i * (d + n) }) ≡ Ok (part_of t i, budget))
  element_of null d n k i h b f deep dear within = absurd b
  element_of (cap j) d n k i h b f deep dear within = absurd b
  element_of (struct ws ts) d n k i h b f deep dear within = cc
  element_of (list es) d n k i h b f deep dear within = cc
  element_of (ptrs ts) d n k i h b f deep dear within = cc
  element_of (structs x y bs) d n k i h b f deep dear within =
      let wide : x ≡ d = cc in
      let high : y ≡ n = cc in
      let many : number_of bs ≡ k = cc in
      let e = element_part S s q x y bs i (rw many within) h in
      let read = fills_read (body_at bs i) most_nesting S s (q + i * (x + y)) most_traversal e.0 (omega (arith, e.2)) (omega (arith, e.3)) in (
        most_traversal - inner_cost (body_at bs i),
        subst (λ u. area_read S (record { form = forms.Struct u n; segment = s; start = q + i * (u + n) }) ≡ Ok (body_at bs i, most_traversal - inner_cost (body_at bs i))) wide
            (subst (λ u. area_read S (record { form = forms.Struct x u; segment = s; start = q + i * (x + u) }) ≡ Ok (body_at bs i, most_traversal - inner_cost (body_at bs i))) high
            (subst (λ f'. filled (rows_at most_nesting S) S f' s (q + i * (x + y)) most_traversal ≡ Ok (body_at bs i, most_traversal - inner_cost (body_at bs i))) e.1 read)),
      )

-- past the last part is null
pub part-past : (t : Node) (i : ℕ) → IsBody t → parts_of (form_of t) ≤ i → part_of t i ≡ null
part-past null i b past = absurd b
part-past (cap k) i b past = absurd b
part-past (struct ws ts) i b past = node_at-past ts i past
part-past (list es) i b past = refl
part-past (ptrs ts) i b past = node_at-past ts i past
part-past (structs x y bs) i b past = body_at-past bs i past

pub shape-form : (t : Node) → IsBody t → shape_of t ≡ form_shape_of (form_of t)
shape-form null b = absurd b
shape-form (cap i) b = absurd b
shape-form (struct ws ts) b = refl
shape-form (list es) b = refl
shape-form (ptrs ts) b = refl
shape-form (structs d n bs) b = refl

-- The words that a body's tree has are those at its start.
words_are : (kids : Kids) (S : List (List ℕ)) (f : Form) (s q budget : ℕ) (x : Node × ℕ) → q + body_words f ≤ length (segment S s) → IsWhole f → filled kids S f s q budget ≡ Ok x
    → AreWordsOf (words_at S s q (lent_words f)) x.0
words_are kids S (forms.Struct d n) s q budget x room w e =
    let k = bind_ok (kids s n (q + d) budget) _ x e in
    subst (λ (y : Node × ℕ). AreWordsOf (words_at S s q d) y.0) (ok_is k.2) refl
words_are kids S (forms.Structs d n c) s q budget x room w e =
    let k = bind_ok (bodies_by (kids s) S s d n c q budget) _ x e in
    subst (λ (y : Node × ℕ). AreWordsOf (words_at S s q 0) y.0) (ok_is k.2) refl
words_are kids S (forms.List sizes.Pointer n) s q budget x room w e =
    let k = bind_ok (kids s n q budget) _ x e in
    subst (λ (y : Node × ℕ). AreWordsOf (words_at S s q 0) y.0) (ok_is k.2) refl
words_are kids S (forms.List sizes.Composite n) s q budget x room w e = absurd w
words_are kids S (forms.List sizes.Void n) s q budget x room w e =
    let none : (n * 0 + 63) / 64 ≡ 0 = omega arith in
    subst (λ (y : Node × ℕ). AreWordsOf (words_at S s q (words_for sizes.Void n)) y.0) (ok_is e) (rw none refl)
words_are kids S (forms.List size n) s q budget x room w e =
    let wide = width S s (words_for size n) q room in
    let made = elements-made (words_at S s q (words_for size n)) size n in
    subst (λ (y : Node × ℕ). AreWordsOf (words_at S s q (words_for size n)) y.0) (ok_is e) (rw made (wide, refl))

-- What a part that is a body says. Its kind and sizes are its form's.
module _ (S : List (List ℕ)) (p : Viewed) (a : Area) (is : p ≡ viewed.Body a) (part : IsViewed S p) where
  own : IsViewed S (viewed.Body a)
  own = subst (IsViewed S) is part

  reads : (x : Node × ℕ) × (area_read S a ≡ Ok x) × ReadsBody S a.segment most_nesting a.start most_traversal a.form x
  reads = area_reads S a own.0 own.2

  node-is : viewed_node S p ≡ reads.0.0
  node-is = ap (viewed_node S) is ∙ ap node_in reads.1

  pub part-shape : form_shape_of a.form ≡ shape_of (viewed_node S p)
  part-shape = rw node-is (sym (shape-form reads.0.0 reads.2.is_body ∙ ap form_shape_of reads.2.form))

  pub part-words : AreWordsOf (words_at S a.segment a.start (lent_words a.form)) (viewed_node S p)
  part-words = rw node-is (words_are (rows_at most_nesting S) S a.form a.segment a.start most_traversal reads.0 own.0.1 own.0.2 reads.1)

  pub part-end : (i : ℕ) → parts_of a.form ≤ i → null ≡ part_of (viewed_node S p) i
  part-end i past = rw node-is (sym (part-past reads.0.0 i reads.2.is_body (rw reads.2.form past)))

  pub part-struct : (d n i : ℕ) → a.form ≡ forms.Struct d n → i < n → (budget : ℕ) × (tree_read S a.segment (a.start + d + i) ≡ Ok (part_of (viewed_node S p) i, budget))
  part-struct d n i f within = rw node-is (struct_part S a.segment a.start reads.0.0 d n i reads.2.fills reads.2.is_body (reads.2.form ∙ f) reads.2.nests (omega (arith, reads.2.costs)) within)

  pub part-pointer : (n i : ℕ) → a.form ≡ forms.List sizes.Pointer n → i < n → (budget : ℕ) × (tree_read S a.segment (a.start + i) ≡ Ok (part_of (viewed_node S p) i, budget))
  part-pointer n i f within = rw node-is (pointer_part S a.segment a.start reads.0.0 n i reads.2.fills reads.2.is_body (reads.2.form ∙ f) reads.2.nests (omega (arith, reads.2.costs)) within)

  pub part-element : (d n k i : ℕ) → a.form ≡ forms.Structs d n k → i < k
      → (budget : ℕ) × (area_read S (record { form = forms.Struct d n; segment = a.segment; start = a.start + i * (d + n) }) ≡ Ok (part_of (viewed_node S p) i, budget))
  part-element d n k i f within = rw node-is (element_of S a.segment a.start reads.0.0 d n k i reads.2.fills reads.2.is_body (reads.2.form ∙ f) reads.2.nests (omega (arith, reads.2.costs)) within)

-- what was read at a word, or of a body
pub read-node : (r : Read Node) (t : Node) (budget : ℕ) → r ≡ Ok (t, budget) → node_in r ≡ t
read-node r t budget e = rw e refl

-- The body that a pointer was found to have, of a pointer that was read: it is a view's part, and its tree is the pointer's.
module _ (S : List (List ℕ)) (at : Place) (r : Pointer) (ws : List ℕ) (a : Area) where
  found-reborrow : pointer_read S at r ≡ area_here at (segment S at.segment) r >>= body_by at (kids_at most_nesting S) S most_traversal → is_ok (pointer_read S at r) ≡ true → ws ≡ segment S at.segment → area_here at ws r ≡ Ok a → IsWithin S a
      → (x : Node × ℕ) × (pointer_read S at r ≡ Ok x) × (budget : ℕ) × (area_read S a ≡ Ok (x.0, budget))
  found-reborrow leads checked same is within =
      let k = ok_of (pointer_read S at r) checked in
      let there : area_here at (segment S at.segment) r ≡ Ok a = subst (λ list. area_here at list r ≡ Ok a) same is in
      let led : body_by at (kids_at most_nesting S) S most_traversal a ≡ Ok k.0 = ap (λ q. q >>= body_by at (kids_at most_nesting S) S most_traversal) (sym there) ∙ sym leads ∙ k.1 in
      (k.0, k.1, _, body_again S at most_nesting most_traversal a k.0 (omega arith) (omega arith) within led)

  found-within : ws ≡ segment S at.segment → a.segment ≡ at.segment → at.segment < length S → a.start + body_words a.form ≤ length ws → IsWhole a.form → IsWithin S a
  found-within same here exists room whole = (rw here exists, rw (here, ← same) room, whole)

  pub found-node : pointer_read S at r ≡ area_here at (segment S at.segment) r >>= body_by at (kids_at most_nesting S) S most_traversal → is_ok (pointer_read S at r) ≡ true → ws ≡ segment S at.segment → area_here at ws r ≡ Ok a
      → a.segment ≡ at.segment → at.segment < length S → a.start + body_words a.form ≤ length ws → IsWhole a.form → node_in (area_read S a) ≡ node_in (pointer_read S at r)
  found-node leads checked same is here exists room whole =
      let k = found-reborrow leads checked same is (found-within same here exists room whole) in
      ap node_in k.3 ∙ sym (ap node_in k.1)

  pub found-part : pointer_read S at r ≡ area_here at (segment S at.segment) r >>= body_by at (kids_at most_nesting S) S most_traversal → is_ok (pointer_read S at r) ≡ true → ws ≡ segment S at.segment → area_here at ws r ≡ Ok a
      → a.segment ≡ at.segment → at.segment < length S → a.start + body_words a.form ≤ length ws → IsWhole a.form → a.start + body_words a.form < 2 ^ 63 → IsViewed S (viewed.Body a)
  found-part leads checked same is here exists room whole small =
      let within = found-within same here exists room whole in
      (within, small, ok_is_ok _ _ (found-reborrow leads checked same is within).3)

-- an element lies among the elements
pub element-inside : (q d n k i : ℕ) → i < k → q + i * (d + n) + (d + n) ≤ q + k * (d + n)
element-inside q d n k i within = let more : i + 1 ≤ k = omega arith in omega (arith, mul-le-mul_left (d + n) more)
