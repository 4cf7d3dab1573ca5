-- Trees that are written hold as they are laid.
use Rattle.std.proofs.Common.{◌≡◌, ℕ, suc, ◌+◌, ◌*◌, ◌^◌, ◌<◌, ◌≤◌, inl, inr, ⊎_elim, List, [], ◌∷◌, ◌++◌, length, replicate, get_or, Some, refl, sym, ap, subst, ◌∙◌, arith}
use Rattle.std.specs.Prelude.{slice_index, negsuc, ◌==◌, if◌then◌else◌}
use Rattle.std.proofs.Math.Nat.{suc-mul}
use Rattle.std.proofs.lemmas.Bool.{ne_eqb}
use Rattle.std.proofs.lemmas.List.{length-append, length-replicate, get_or_append_left, get_or-append-add}
use Rattle.cp_words.specs.Word.{pointer_of, word_of, tag_of, words_for}
use Rattle.cp_words.specs.declared.pointer.ElementSize.TheVariants as sizes
use Rattle.cp_words.specs.declared.pointer.Pointer.{Pointer}
use Rattle.cp_words.specs.declared.pointer.Pointer.TheVariants as pointers
use Rattle.cp_words.specs.declared.kind.BodyKind.{BodyKind}
use Rattle.cp_words.specs.declared.kind.BodyKind.TheVariants as kinds
use Rattle.cp_writing.specs.declared.arena.Capacity.{Capacity}
use Rattle.cp_tree.specs.Node.{Elements, voids, bits, bytes, halves, quads, words, element_size, element_count, Node, null, cap, struct, list, ptrs, structs, Nodes, no_nodes, node, Bodies, no_bodies, body, count, number_of}
use Rattle.cp_words.specs.Targets.{segment, Holds, words_at}
use Rattle.cp_writing.specs.Layout.{Filled, Places, HoldElements, Lays, LaysRow, LaysBodies}
use Rattle.cp_writing.specs.Packed.{packed}
use Rattle.cp_tree.specs.Shaped.{ElementsFit, Shaped, EachShaped, EachEven}
use Rattle.cp_writing.specs.Sheets.{Written, Placed, put, append, end_of, place_by, IsNamed}
use Rattle.cp_writing.specs.Writing.{body_blank, bodies_blank, struct_placed, ptrs_placed, structs_placed, tag_word, tree_by, row_by, bodies_by}
use Rattle.cp_writing.proofs.PointerWords.{says_null, says_empty, says_cap, says_tag}
use Rattle.cp_writing.proofs.Sheets.{end-put}
use Rattle.cp_writing.proofs.Keeps.{at, Keeps, keeps_nothing, keeps_both, keeps_append, spot, lies, length-blank, length-bodies, keeps_tree, keeps_row, keeps_bodies}
use Rattle.cp_writing.proofs.Later.{Later, at_first, at_last, at-put, filled, filled-put, Stand, stand, are_words}
use Rattle.cp_writing.proofs.Placing.{capacity_of, placed}
use Rattle.cp_writing.proofs.PackedHolds.{packed_holds, packed_length}

pub few_elements : (es : Elements) → ElementsFit es → element_count es < 2 ^ 29
few_elements (voids n) h = h
few_elements (bits bs) h = h
few_elements (bytes ns) h = h.0
few_elements (halves ns) h = h.0
few_elements (quads ns) h = h.0
few_elements (words ns) h = h.0

-- what stands after the first of words
stand_after : (F : Written) (s q : ℕ) (ws xs : List ℕ) → Stand F s q (ws ++ xs) → Stand F s (q + length ws) xs
stand_after F s q ws xs h i less = ap (at F s) (omega arith) ∙ h (length ws + i) (omega (arith, length-append ws xs, less)) ∙ get_or-append-add ws xs i 0

-- a struct that has words or pointers
pub not_none : (n : ℕ) (F G : Written) → 0 < n → (if n == 0 then F else G) ≡ G
not_none n F G some = rw (ne_eqb n 0 (λ z. omega (arith, z, some))) refl

module _ (capacity : Capacity) (S : List (List ℕ)) (small : (b : ℕ) → length (segment S b) ≤ 134217728) where
  holds_put : (F : Written) (s p w : ℕ) (r : Pointer) → s ≤ length F.full → p < end_of F s → pointer_of w ≡ Some r → Later F s p 1 (put s p w F) S → Holds S s p r
  holds_put F s p w r le lt says l =
      let inside : p < end_of (put s p w F) s = omega (arith, lt, end-put F s p w s le) in
      (omega (arith, inside, l.ends s), ap pointer_of (l.same s p (inr (refl, omega arith, omega arith)) inside ∙ at-put F s p w le lt) ∙ says)

  -- a body of this many words, with pointers after the first of them, and what hangs on these
  record BodyLaid (F : Written) (s p : ℕ) (k : BodyKind) (size : ℕ) (xs : List ℕ) (lo m : ℕ) (x : Placed) (G : Written) : Type 0 where
    places : Places S (capacity_of capacity) s p k size (filled F) x.at.segment x.at.word (filled (append xs x.arena))
    rest : Later (append xs x.arena) x.at.segment (x.at.word + lo) m G S
    first : (i : ℕ) → i < lo → slice_index (segment S x.at.segment) (x.at.word + i) ≡ get_or xs i 0
    inside : x.at.word + size ≤ length (segment S x.at.segment)

  body_laid : (F : Written) (s p : ℕ) (k : BodyKind) (size : ℕ) (xs : List ℕ) (lo m : ℕ) (G : Written) → length xs ≡ size → s ≤ length F.full → p < end_of F s → IsNamed k → lo ≤ size
      → Keeps (append xs (place_by capacity s p k size F).arena) (place_by capacity s p k size F).at.segment ((place_by capacity s p k size F).at.word + lo) m G → Later F s p 1 G S → BodyLaid F s p k size xs lo m (place_by capacity s p k size F) G
  body_laid F s p k size xs lo m G long le lt named within kept l =
      let x = place_by capacity s p k size F in
      let there = spot capacity s p k size F le in
      let h = lies F s p size xs x there long in
      let later : Later F s p 1 x.arena S = at_first l (keeps_both (keeps_append x.arena xs x.at.segment (x.at.word + lo) m) kept (λ b r inside i. i) (λ b r inside i. i)) (λ b r fresh. fresh)
      (λ b r inside fresh i. absurd (omega (arith, inside, ap (end_of x.arena) i.0, i.1, there.end))) in
      record {
        places = placed capacity S small F s p k size xs long le lt named later;
        rest = at_last l (λ b r fresh. inl (⊎_elim (λ ge. omega (arith, ge, h.keeps.ends b)) (λ i. omega (arith, i.1, h.after, ap (end_of F) i.0)) fresh));
        first = λ i less.
            let inside : x.at.word + i < end_of (append xs x.arena) x.at.segment = omega (arith, less, within, long, h.inside) in
            l.same x.at.segment (x.at.word + i) (inl (omega (arith, h.after))) (omega (arith, inside, kept.ends x.at.segment))
            ∙ kept.same x.at.segment (x.at.word + i) inside (λ j. absurd (omega (arith, j.1, less)))
            ∙ stand F s p size xs x there long i (omega (arith, less, within, long));
        inside = omega (arith, h.inside, long, kept.ends x.at.segment, l.ends x.at.segment);
      }

  -- what is laid of a row of pointers, wherever it stands
  abbrev RowLaid : Nodes → Type 0
  RowLaid ts = (s p : ℕ) (F : Written) → s ≤ length F.full → p + count ts ≤ end_of F s → Later F s p (count ts) (row_by capacity s p ts F) S → LaysRow S (capacity_of capacity) s p ts (filled F) (filled (row_by capacity s p ts F))

  some_struct : (ws : List ℕ) (ts : Nodes) (s p : ℕ) (F : Written) → Shaped (struct ws ts) → 0 < length ws + count ts → RowLaid ts → s ≤ length F.full → p < end_of F s → Later F s p 1 (tree_by capacity s p (struct ws ts) F) S
      → (s' : ℕ) × (start : ℕ) × (mid : Filled) × Places S (capacity_of capacity) s p (kinds.Struct (length ws) (count ts)) (length ws + count ts) (filled F) s' start mid
      × (ws ≡ words_at S s' start (length ws)) × LaysRow S (capacity_of capacity) s' (start + length ws) ts mid (filled (tree_by capacity s p (struct ws ts) F))
  some_struct ws ts s p F shaped some row le lt l =
      let n = count ts in
      let x = struct_placed capacity s p ws n F in
      let xs = body_blank ws n in
      let B = append xs x.arena in
      let q = x.at.word + length ws in
      let G = row_by capacity x.at.segment q ts B in
      let long = length-blank ws n in
      let h = lies F s p (length ws + n) xs x (spot capacity s p (kinds.Struct (length ws) n) (length ws + n) F le) long in
      let run : q + n ≤ end_of B x.at.segment = omega (arith, h.inside, long) in
      let is : tree_by capacity s p (struct ws ts) F ≡ G = not_none (length ws + n) _ _ some in
      subst (λ W. (s' : ℕ) × (start : ℕ) × (mid : Filled) × Places S (capacity_of capacity) s p (kinds.Struct (length ws) (count ts)) (length ws + count ts) (filled F) s' start mid
      × (ws ≡ words_at S s' start (length ws)) × LaysRow S (capacity_of capacity) s' (start + length ws) ts mid (filled W)) (sym is)
      (let b = body_laid F s p (kinds.Struct (length ws) n) (length ws + n) xs (length ws) n G long le lt (shaped.0.0, shaped.0.1, some) (omega arith) (keeps_row capacity ts x.at.segment q B shaped.2 h.there run) (subst (λ W. Later F s p 1 W S) is l) in (
        x.at.segment,
        x.at.word,
        filled B,
        b.places,
        are_words S x.at.segment x.at.word (length ws) ws refl (omega (arith, b.inside)) (λ i less. b.first i less ∙ get_or_append_left ws (replicate n 0) 0 i less),
        row x.at.segment q B h.there run b.rest,
      ))

  struct_laid : (ws : List ℕ) (ts : Nodes) (s p : ℕ) (F : Written) → Shaped (struct ws ts) → RowLaid ts → s ≤ length F.full → p < end_of F s → Later F s p 1 (tree_by capacity s p (struct ws ts) F) S
      → Lays S (capacity_of capacity) s p (struct ws ts) (filled F) (filled (tree_by capacity s p (struct ws ts) F))
  struct_laid [] no_nodes s p F shaped row le lt l =
      let w = word_of (pointers.Struct (negsuc 0) 0 0) in
      (holds_put F s p w (pointers.Struct (negsuc 0) 0 0) le lt says_empty l, filled-put F s p w)
  struct_laid [] (node t ts) s p F shaped row le lt l = some_struct [] (node t ts) s p F shaped (omega arith) row le lt l
  struct_laid (w ∷ ws) ts s p F shaped row le lt l = some_struct (w ∷ ws) ts s p F shaped (omega arith) row le lt l

  list_laid : (es : Elements) (s p : ℕ) (F : Written) → ElementsFit es → s ≤ length F.full → p < end_of F s → Later F s p 1 (tree_by capacity s p (list es) F) S → Lays S (capacity_of capacity) s p (list es) (filled F) (filled (tree_by capacity s p (list es) F))
  list_laid es s p F fit le lt l =
      let k = kinds.List (element_size es) (element_count es) in
      let size = words_for (element_size es) (element_count es) in
      let x = place_by capacity s p k size F in
      let B = append (packed es) x.arena in
      let b = body_laid F s p k size (packed es) size 0 B (packed_length es) le lt (few_elements es fit) (omega arith) (keeps_nothing B x.at.segment (x.at.word + size) 0) l in (
        x.at.segment,
        x.at.word,
        b.places,
        subst (λ ws. HoldElements ws es) (are_words S x.at.segment x.at.word size (packed es) (packed_length es) b.inside b.first) (packed_holds es fit),
      )

  ptrs_laid : (ts : Nodes) (s p : ℕ) (F : Written) → Shaped (ptrs ts) → RowLaid ts → s ≤ length F.full → p < end_of F s → Later F s p 1 (tree_by capacity s p (ptrs ts) F) S → Lays S (capacity_of capacity) s p (ptrs ts) (filled F) (filled (tree_by capacity s p (ptrs ts) F))
  ptrs_laid ts s p F shaped row le lt l =
      let n = count ts in
      let k = kinds.List sizes.Pointer n in
      let x = ptrs_placed capacity s p n F in
      let xs = replicate {A = ℕ} n 0 in
      let B = append xs x.arena in
      let q = x.at.word + 0 in
      let G = row_by capacity x.at.segment q ts B in
      let long = length-replicate {A = ℕ} n 0 in
      let h = lies F s p n xs x (spot capacity s p k n F le) long in
      let run : q + n ≤ end_of B x.at.segment = omega (arith, h.inside, long) in
      let b = body_laid F s p k n xs 0 n G long le lt shaped.0 (omega arith) (keeps_row capacity ts x.at.segment q B shaped.1 h.there run) l in
      (x.at.segment, x.at.word, filled B, b.places, subst (λ first. LaysRow S (capacity_of capacity) x.at.segment first ts (filled B) (filled G)) (omega arith) (row x.at.segment q B h.there run b.rest))

  abbrev BodiesLaid : ℕ → ℕ → Bodies → Type 0
  BodiesLaid d n bs = (s q : ℕ) (F : Written) → s ≤ length F.full → q + number_of bs * (d + n) ≤ end_of F s → Stand F s q (bodies_blank bs) → Later F s q (number_of bs * (d + n)) (bodies_by capacity s q d n bs F) S
      → LaysBodies S (capacity_of capacity) s q d n bs (filled F) (filled (bodies_by capacity s q d n bs F))

  structs_laid : (d n : ℕ) (bs : Bodies) (s p : ℕ) (F : Written) → Shaped (structs d n bs) → BodiesLaid d n bs → s ≤ length F.full → p < end_of F s → Later F s p 1 (tree_by capacity s p (structs d n bs) F) S
      → Lays S (capacity_of capacity) s p (structs d n bs) (filled F) (filled (tree_by capacity s p (structs d n bs) F))
  structs_laid d n bs s p F shaped laid le lt l =
      let m = number_of bs * (d + n) in
      let k = kinds.List sizes.Composite m in
      let tag = tag_word (number_of bs) d n in
      let x = structs_placed capacity s p d n (number_of bs) F in
      let xs = tag ∷ bodies_blank bs in
      let B = append xs x.arena in
      let q = x.at.word + 1 in
      let G = bodies_by capacity x.at.segment q d n bs B in
      let all = length-bodies d n bs shaped.3 in
      let long : length xs ≡ m + 1 = omega (arith, all) in
      let there = spot capacity s p k (m + 1) F le in
      let h = lies F s p (m + 1) xs x there long in
      let run : q + m ≤ end_of B x.at.segment = omega (arith, h.inside, long) in
      let b = body_laid F s p k (m + 1) xs 1 m G long le lt shaped.2 (omega arith) (keeps_bodies capacity bs x.at.segment q d n B shaped.3 h.there run) l in
      let elements : Stand B x.at.segment q (bodies_blank bs) = stand_after B x.at.segment x.at.word (tag ∷ []) (bodies_blank bs) (stand F s p (m + 1) xs x there long) in (
        x.at.segment,
        x.at.word,
        filled B,
        b.places,
        ap (λ r. tag_of (slice_index (segment S x.at.segment) r)) (omega arith) ∙ ap tag_of (b.first 0 (omega arith)) ∙ says_tag (number_of bs) d n shaped.1 shaped.0.0,
        laid x.at.segment q B h.there run elements b.rest,
      )

  mutual
    pub lays_tree : (t : Node) (s p : ℕ) (F : Written) → Shaped t → s ≤ length F.full → p < end_of F s → Later F s p 1 (tree_by capacity s p t F) S → Lays S (capacity_of capacity) s p t (filled F) (filled (tree_by capacity s p t F))
    lays_tree null s p F shaped le lt l = (holds_put F s p 0 pointers.Null le lt says_null l, filled-put F s p 0)
    lays_tree (cap i) s p F shaped le lt l = (holds_put F s p (word_of (pointers.Cap i)) (pointers.Cap i) le lt (says_cap i shaped) l, filled-put F s p (word_of (pointers.Cap i)))
    lays_tree (struct ws ts) s p F shaped le lt l = struct_laid ws ts s p F shaped (λ s' q G there run rest. lays_row ts s' q G shaped.2 there run rest) le lt l
    lays_tree (list es) s p F shaped le lt l = list_laid es s p F shaped le lt l
    lays_tree (ptrs ts) s p F shaped le lt l = ptrs_laid ts s p F shaped (λ s' q G there run rest. lays_row ts s' q G shaped.1 there run rest) le lt l
    lays_tree (structs d n bs) s p F shaped le lt l = structs_laid d n bs s p F shaped (λ s' q G there run elements rest. lays_bodies bs s' q d n G shaped.3 there run elements rest) le lt l

    lays_row : (ts : Nodes) (s p : ℕ) (F : Written) → EachShaped ts → s ≤ length F.full → p + count ts ≤ end_of F s → Later F s p (count ts) (row_by capacity s p ts F) S → LaysRow S (capacity_of capacity) s p ts (filled F) (filled (row_by capacity s p ts F))
    lays_row no_nodes s p F shaped le run l = refl
    lays_row (node t ts) s p F shaped le run l =
        let M = tree_by capacity s p t F in
        let first = keeps_tree capacity t s p F shaped.0 le in
        let there : s ≤ length M.full = omega (arith, le, first.goes) in
        let rest : p + 1 + count ts ≤ end_of M s = omega (arith, run, first.ends s) in (
          filled M,
          lays_tree t s p F shaped.0 le (omega (arith, run)) (at_first l (keeps_row capacity ts s (p + 1) M shaped.1 there rest) (λ b r. ⊎_elim inl (λ i. inr (i.0, i.1, omega (arith, i.2))))
              (λ b r inside. ⊎_elim (λ ge i. absurd (omega (arith, ge, ap (end_of F) i.0, i.2, run))) (λ i j. absurd (omega (arith, i.2, j.1))))),
          lays_row ts s (p + 1) M shaped.1 there rest (at_last l (λ b r. ⊎_elim (λ ge. inl (omega (arith, ge, first.ends b))) (λ i. inr (i.0, omega (arith, i.1), omega (arith, i.2))))),
        )

    lays_bodies : (bs : Bodies) (s q d n : ℕ) (F : Written) → EachEven d n bs → s ≤ length F.full → q + number_of bs * (d + n) ≤ end_of F s → Stand F s q (bodies_blank bs) → Later F s q (number_of bs * (d + n)) (bodies_by capacity s q d n bs F) S
        → LaysBodies S (capacity_of capacity) s q d n bs (filled F) (filled (bodies_by capacity s q d n bs F))
    lays_bodies no_bodies s q d n F even le run elements l = refl
    lays_bodies (body ws ts bs) s q d n F even le run elements l =
        let m = number_of bs * (d + n) in
        let product : suc (number_of bs) * (d + n) ≡ m + (d + n) = suc-mul (number_of bs) (d + n) in
        let M = row_by capacity s (q + d) ts F in
        let row : q + d + count ts ≤ end_of F s = omega (arith, even.1, run, product) in
        let first = keeps_row capacity ts s (q + d) F even.3 le row in
        let there : s ≤ length M.full = omega (arith, le, first.goes) in
        let rest : q + d + n + m ≤ end_of M s = omega (arith, run, product, first.ends s) in
        let second = keeps_bodies capacity bs s (q + d + n) d n M even.4 there rest in
        let blank = body_blank ws (count ts) in
        let long : length blank ≡ d + n = omega (arith, length-blank ws (count ts), even.0, even.1) in (
          filled M,
          are_words S s q d ws even.0 (omega (arith, row, first.ends s, second.ends s, l.ends s))
              (λ i less.
              l.same s (q + i) (inr (refl, omega arith, omega (arith, less, product))) (omega (arith, less, row, first.ends s, second.ends s))
              ∙ second.same s (q + i) (omega (arith, less, row, first.ends s)) (λ j. absurd (omega (arith, j.1, less)))
              ∙ first.same s (q + i) (omega (arith, less, row)) (λ j. absurd (omega (arith, j.1, less)))
              ∙ elements i (omega (arith, length-append blank (bodies_blank bs), long, less))
              ∙ get_or_append_left blank (bodies_blank bs) 0 i (omega (arith, long, less))
              ∙ get_or_append_left ws (replicate (count ts) 0) 0 i (omega (arith, even.0, less))),
          lays_row ts s (q + d) F even.3 le row (at_first l second (λ b r. ⊎_elim inl (λ i. inr (i.0, omega (arith, i.1), omega (arith, i.2, even.1, product))))
              (λ b r inside. ⊎_elim (λ ge i. absurd (omega (arith, ge, ap (end_of F) i.0, i.2, run, product))) (λ i j. absurd (omega (arith, i.2, j.1, even.1))))),
          lays_bodies bs s (q + d + n) d n M even.4 there rest
              (λ i less.
              first.same s (q + d + n + i) (omega (arith, less, length-bodies d n bs even.4, run, product)) (λ j. absurd (omega (arith, j.2, even.1)))
              ∙ ap (at F s) (omega (arith, long)) ∙ stand_after F s q blank (bodies_blank bs) elements i less)
              (at_last l (λ b r. ⊎_elim (λ ge. inl (omega (arith, ge, first.ends b))) (λ i. inr (i.0, omega (arith, i.1), omega (arith, i.2, product))))),
        )
