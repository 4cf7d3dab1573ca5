-- Where a segment may be as large as a frame, a tree that fits the frame is written into one.
use Rattle.std.proofs.Common.{◌≡◌, ◌⊎◌, inl, inr, ℕ, ◌+◌, ◌-◌, ◌*◌, ◌≤◌, Bool, true, false, List, [], ◌∷◌, length, map, max, replicate, if◌then◌else◌, refl, sym, ap, ◌∙◌, subst, length-append, arith, negsuc}
use Rattle.std.proofs.lemmas.Bool.{le-leb, eq-eqb}
use Rattle.std.proofs.lemmas.List.{length-replicate}
use Rattle.cp_words.specs.Limits.{Bounds}
use Rattle.cp_words.specs.Word.{word_of, words_for}
use Rattle.cp_words.specs.declared.pointer.ElementSize.TheVariants as sizes
use Rattle.cp_words.specs.declared.pointer.Pointer.TheVariants as pointers
use Rattle.cp_words.specs.declared.kind.BodyKind.{BodyKind}
use Rattle.cp_words.specs.declared.kind.BodyKind.TheVariants as kinds
use Rattle.cp_writing.specs.declared.arena.Capacity.{Capacity}
use Rattle.cp_tree.specs.Node.{Elements, element_size, element_count, voids, bits, bytes, halves, quads, words, Node, null, cap, struct, list, ptrs, structs, Nodes, no_nodes, node, Bodies, no_bodies, body, count, number_of}
use Rattle.cp_writing.specs.Packed.{packed, bit_of}
use Rattle.cp_tree.specs.Shaped.{Shaped, EachShaped, EachEven}
use Rattle.cp_writing.specs.Sheets.{Written, put, append, begin, end_of, body_word, landing_pad_for, Placed, here, with_segment_for, place_in, place_by}
use Rattle.cp_writing.specs.Writing.{body_blank, bodies_blank, tag_word, begun, struct_begun, ptrs_begun, structs_begun, tree_by, row_by, bodies_by}
use Rattle.cp_writing.specs.LaidOut.{capacity_for, laid_out}
use Rattle.cp_writing.proofs.Sheets.{words-put, full-put, last-put, with_room_keeps, place-here, place-cases}
use Rattle.cp_writing.proofs.Keeps.{either, length-blank, length-bodies}
use Rattle.cp_writing.proofs.Packing.{length_groups, length_bits}

-- ---- writing more counts no fewer words

counts_place : (capacity : Capacity) (s p : ℕ) (k : BodyKind) (size : ℕ) (F : Written) → F.words ≤ (place_by capacity s p k size F).arena.words
counts_place capacity s p k size F =
    let G = with_segment_for capacity s size F in
    let more : F.words ≤ G.words = with_room_keeps (λ H. F.words ≤ H.words) capacity s size F (omega arith) (λ _. omega arith) in
    place-cases (λ x. F.words ≤ x.arena.words) s p k size G (λ direct. omega (arith, more, words-put G s p (body_word k (end_of G s - (p + 1))))) (λ some other. omega (arith, more, words-put G s p (word_of (pointers.Far false (length G.last) (length G.full)))))

mutual
  counts_tree : (capacity : Capacity) (t : Node) (s p : ℕ) (F : Written) → F.words ≤ (tree_by capacity s p t F).words
  counts_tree capacity null s p F = omega (arith, words-put F s p 0)
  counts_tree capacity (cap i) s p F = omega (arith, words-put F s p (word_of (pointers.Cap i)))
  counts_tree capacity (struct ws ts) s p F =
      let x = struct_begun capacity s p ws (count ts) F in
      let begun = counts_place capacity s p (kinds.Struct (length ws) (count ts)) (length ws + count ts) F in
      either (λ G. F.words ≤ G.words) (length ws + count ts) _ _ (omega (arith, words-put F s p (word_of (pointers.Struct (negsuc 0) 0 0)))) (omega (arith, begun, counts_row capacity ts x.at.segment x.at.word x.arena))
  counts_tree capacity (list es) s p F = omega (arith, counts_place capacity s p (kinds.List (element_size es) (element_count es)) (words_for (element_size es) (element_count es)) F)
  counts_tree capacity (ptrs ts) s p F =
      let x = ptrs_begun capacity s p (count ts) F in
      omega (arith, counts_place capacity s p (kinds.List sizes.Pointer (count ts)) (count ts) F, counts_row capacity ts x.at.segment x.at.word x.arena)
  counts_tree capacity (structs d n bs) s p F =
      let x = structs_begun capacity s p d n (number_of bs) (bodies_blank bs) F in
      omega (arith, counts_place capacity s p (kinds.List sizes.Composite (number_of bs * (d + n))) (number_of bs * (d + n) + 1) F, counts_bodies capacity bs x.at.segment x.at.word d n x.arena)

  counts_row : (capacity : Capacity) (ts : Nodes) (s p : ℕ) (F : Written) → F.words ≤ (row_by capacity s p ts F).words
  counts_row capacity no_nodes s p F = omega arith
  counts_row capacity (node t ts) s p F = omega (arith, counts_tree capacity t s p F, counts_row capacity ts s (p + 1) (tree_by capacity s p t F))

  counts_bodies : (capacity : Capacity) (bs : Bodies) (s q d n : ℕ) (F : Written) → F.words ≤ (bodies_by capacity s q d n bs F).words
  counts_bodies capacity no_bodies s q d n F = omega arith
  counts_bodies capacity (body ws ts bs) s q d n F = omega (arith, counts_row capacity ts s (q + d) F, counts_bodies capacity bs s (q + d + n) d n (row_by capacity s (q + d) ts F))

-- as many words as the elements take
length_packed : (es : Elements) → length (packed es) ≡ words_for (element_size es) (element_count es)
length_packed (voids n) = omega arith
length_packed (bits bs) = length_groups 2 64 (map bit_of bs) ∙ omega (arith, length_bits bs)
length_packed (bytes ns) = length_groups 256 8 ns ∙ omega arith
length_packed (halves ns) = length_groups 65536 4 ns ∙ omega arith
length_packed (quads ns) = length_groups 4294967296 2 ns ∙ omega arith
length_packed (words ns) = omega arith

-- ---- one segment

-- there is one segment so far, and all its words are counted
abbrev Sole : Written → Type 0
Sole F = (length F.full ≡ 0) × (length F.last ≤ F.words)

sole_put : (F : Written) (s p w : ℕ) → Sole F → Sole (put s p w F)
sole_put F s p w h = (full-put F s p w ∙ h.0, omega (arith, last-put F s p w, words-put F s p w, h.1))

sole_append : (F : Written) (ws : List ℕ) → Sole F → Sole (append ws F)
sole_append F ws h = (h.0, omega (arith, length-append F.last ws, h.1))

-- a segment may have this many words, or there may be one alone
abbrev Wide : ℕ → Capacity → Type 0
Wide u capacity = (u ≤ capacity.words) ⊎ (capacity.segments ≤ 1)

-- the same, and in one segment
abbrev Same : Written → Written → Type 0
Same G H = (G ≡ H) × Sole H

stays : (a b c : Bool) (x y : Written) → b ≡ true → (if a then x else (if b then x else (if c then x else y))) ≡ x
stays true b c x y e = refl
stays false b c x y e = ap (λ t. if t then x else (if c then x else y)) e

same_choice : (b : Bool) (x y z : Written) (u : ℕ) → Sole x → (y.words ≤ u → Same z y) → (if b then x else y).words ≤ u → Same (if b then x else z) (if b then x else y)
same_choice true x y z u s h fits = (refl, s)
same_choice false x y z u s h fits = h fits

module _ (u : ℕ) where
  -- no segment is begun for what fits
  with_here : (capacity : Capacity) → Wide u capacity → (size : ℕ) (F : Written) → Sole F → F.words + size ≤ u → with_segment_for capacity 0 size F ≡ F
  with_here capacity (inr one) size F sole fits = with_room_keeps (λ G. G ≡ F) capacity 0 size F refl (λ more. absurd (omega (arith, more, one)))
  with_here capacity (inl wide) size F sole fits =
      let none : landing_pad_for 0 F ≡ 0 = ap (λ b. if b then 0 else 1) (eq-eqb 0 (length F.full) (sym sole.0)) in
      stays _ _ _ F (begin F) (le-leb (length F.last + landing_pad_for 0 F + size) capacity.words (omega (arith, none, sole.1, fits, wide)))

  placed_here : (capacity : Capacity) → Wide u capacity → (p : ℕ) (k : BodyKind) (size : ℕ) (F : Written) → Sole F → F.words + size ≤ u → place_by capacity 0 p k size F ≡ here 0 p k F
  placed_here capacity wide p k size F sole fits = ap (place_in 0 p k size) (with_here capacity wide size F sole fits) ∙ place-here 0 p k size F (inr (sym sole.0))

module _ (u : ℕ) (Q R : Capacity) (wq : Wide u Q) (wr : Wide u R) where
  -- a body and what hangs on it, where its words fit
  begun_same : (k : BodyKind) (size n p : ℕ) (blank : List ℕ) (F : Written) (rest : Capacity → Placed → Written)
      → ((x : Placed) → x.arena.words ≤ (rest Q x).words)
      → ((x : Placed) → x.at.segment ≡ 0 → Sole x.arena → (rest Q x).words ≤ u → Same (rest R x) (rest Q x))
      → Sole F → length blank ≡ size → (rest Q (begun blank n (place_by Q 0 p k size F))).words ≤ u
      → Same (rest R (begun blank n (place_by R 0 p k size F))) (rest Q (begun blank n (place_by Q 0 p k size F)))
  begun_same k size n p blank F rest counts next sole long fits =
      let capacity : F.words + size ≤ u = omega (arith, counts (begun blank n (place_by Q 0 p k size F)), counts_place Q 0 p k size F, long, fits) in
      let q = placed_here u Q wq p k size F sole capacity in
      let r = placed_here u R wr p k size F sole capacity in
      let there = begun blank n (here 0 p k F) in
      let less : (rest Q there).words ≤ u = subst (λ x. (rest Q (begun blank n x)).words ≤ u) q fits in
      let same = next there refl (sole_append _ blank (sole_put F 0 p _ sole)) less in
      subst (λ x. Same (rest R (begun blank n (place_by R 0 p k size F))) (rest Q (begun blank n x))) (sym q) (subst (λ x. Same (rest R (begun blank n x)) (rest Q there)) (sym r) same)

  mutual
    same_tree : (t : Node) (s p : ℕ) (F : Written) → s ≡ 0 → Shaped t → Sole F → (tree_by Q s p t F).words ≤ u → Same (tree_by R s p t F) (tree_by Q s p t F)
    same_tree null s p F e shaped sole fits = (refl, sole_put F s p 0 sole)
    same_tree (cap i) s p F e shaped sole fits = (refl, sole_put F s p (word_of (pointers.Cap i)) sole)
    same_tree (struct ws ts) s p F e shaped sole fits =
        subst
        (λ z. (tree_by Q z p (struct ws ts) F).words ≤ u → Same (tree_by R z p (struct ws ts) F) (tree_by Q z p (struct ws ts) F))
        (sym e)
        (same_choice _ _ _ _ u (sole_put F 0 p _ sole)
        (begun_same (kinds.Struct (length ws) (count ts)) (length ws + count ts) (length ws) p (body_blank ws (count ts)) F (λ capacity x. row_by capacity x.at.segment x.at.word ts x.arena)
        (λ x. counts_row Q ts x.at.segment x.at.word x.arena) (λ x at. same_row ts x.at.segment x.at.word x.arena at shaped.2) sole (length-blank ws (count ts))))
        fits
    same_tree (list es) s p F e shaped sole fits =
        subst
        (λ z. (tree_by Q z p (list es) F).words ≤ u → Same (tree_by R z p (list es) F) (tree_by Q z p (list es) F))
        (sym e)
        (begun_same (kinds.List (element_size es) (element_count es)) (words_for (element_size es) (element_count es)) 0 p (packed es) F (λ capacity x. x.arena)
        (λ x. omega arith) (λ x at single less. (refl, single)) sole (length_packed es))
        fits
    same_tree (ptrs ts) s p F e shaped sole fits =
        subst
        (λ z. (tree_by Q z p (ptrs ts) F).words ≤ u → Same (tree_by R z p (ptrs ts) F) (tree_by Q z p (ptrs ts) F))
        (sym e)
        (begun_same (kinds.List sizes.Pointer (count ts)) (count ts) 0 p (replicate (count ts) 0) F (λ capacity x. row_by capacity x.at.segment x.at.word ts x.arena)
        (λ x. counts_row Q ts x.at.segment x.at.word x.arena) (λ x at. same_row ts x.at.segment x.at.word x.arena at shaped.1) sole (length-replicate {A = ℕ} (count ts) 0))
        fits
    same_tree (structs d n bs) s p F e shaped sole fits =
        subst
        (λ z. (tree_by Q z p (structs d n bs) F).words ≤ u → Same (tree_by R z p (structs d n bs) F) (tree_by Q z p (structs d n bs) F))
        (sym e)
        (begun_same (kinds.List sizes.Composite (number_of bs * (d + n))) (number_of bs * (d + n) + 1) 1 p (tag_word (number_of bs) d n ∷ bodies_blank bs) F (λ capacity x. bodies_by capacity x.at.segment x.at.word d n bs x.arena)
        (λ x. counts_bodies Q bs x.at.segment x.at.word d n x.arena) (λ x at. same_bodies bs x.at.segment x.at.word d n x.arena at shaped.3) sole (omega (arith, length-bodies d n bs shaped.3)))
        fits

    same_row : (ts : Nodes) (s p : ℕ) (F : Written) → s ≡ 0 → EachShaped ts → Sole F → (row_by Q s p ts F).words ≤ u → Same (row_by R s p ts F) (row_by Q s p ts F)
    same_row no_nodes s p F e shaped sole fits = (refl, sole)
    same_row (node t ts) s p F e shaped sole fits =
        let first = same_tree t s p F e shaped.0 sole (omega (arith, fits, counts_row Q ts s (p + 1) (tree_by Q s p t F))) in
        let rest = same_row ts s (p + 1) (tree_by Q s p t F) e shaped.1 first.1 fits in (ap (row_by R s (p + 1) ts) first.0 ∙ rest.0, rest.1)

    same_bodies : (bs : Bodies) (s q d n : ℕ) (F : Written) → s ≡ 0 → EachEven d n bs → Sole F → (bodies_by Q s q d n bs F).words ≤ u → Same (bodies_by R s q d n bs F) (bodies_by Q s q d n bs F)
    same_bodies no_bodies s q d n F e even sole fits = (refl, sole)
    same_bodies (body ws ts bs) s q d n F e even sole fits =
        let first = same_row ts s (q + d) F e even.3 sole (omega (arith, fits, counts_bodies Q bs s (q + d + n) d n (row_by Q s (q + d) ts F))) in
        let rest = same_bodies bs s (q + d + n) d n (row_by Q s (q + d) ts F) e even.4 first.1 fits in (ap (bodies_by R s (q + d + n) d n bs) first.0 ∙ rest.0, rest.1)

-- what fits the frame is laid out the same, whether more segments may be begun or not
pub one_segment : (limits : Bounds) (t : Node) → Shaped t → (laid_out (capacity_for (max 1 limits.frame_words) limits.segments limits) t).words ≤ limits.frame_words
    → laid_out (capacity_for (max 1 limits.frame_words) 1 limits) t ≡ laid_out (capacity_for (max 1 limits.frame_words) limits.segments limits) t
one_segment limits t shaped fits =
    (same_tree limits.frame_words (capacity_for (max 1 limits.frame_words) limits.segments limits) (capacity_for (max 1 limits.frame_words) 1 limits) (inl (omega arith)) (inr (omega arith)) t 0 0
    (record { full = []; last = 0 ∷ []; words = 1 }) refl shaped (refl, omega arith) fits).0

pub one_segment_alone : (limits : Bounds) (t : Node) → Shaped t → (laid_out (capacity_for (max 1 limits.frame_words) 1 limits) t).words ≤ limits.frame_words
    → laid_out (capacity_for (max 1 limits.frame_words) limits.segments limits) t ≡ laid_out (capacity_for (max 1 limits.frame_words) 1 limits) t
one_segment_alone limits t shaped fits =
    (same_tree limits.frame_words (capacity_for (max 1 limits.frame_words) 1 limits) (capacity_for (max 1 limits.frame_words) limits.segments limits) (inr (omega arith)) (inl (omega arith)) t 0 0
    (record { full = []; last = 0 ∷ []; words = 1 }) refl shaped (refl, omega arith) fits).0
