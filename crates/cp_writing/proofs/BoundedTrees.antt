-- The words that a tree is written as fit 64 bits, where they are no more than a message may have.
use Rattle.std.proofs.Common.{ℕ, ◌+◌, ◌-◌, ◌*◌, ◌<◌, ◌≤◌, [], ◌∷◌, length, replicate, ⊎_elim, arith}
use Rattle.std.proofs.lemmas.Bool.{cases_eq, eq-eqb, ne_eqb}
use Rattle.std.specs.Prelude.{negsuc, false, ◌==◌, if◌then◌else◌}
use Rattle.cp_words.specs.Word.{word_of, words_for}
use Rattle.cp_words.specs.declared.pointer.ElementSize.TheVariants as sizes
use Rattle.cp_words.specs.declared.pointer.Pointer.TheVariants as pointers
use Rattle.cp_words.specs.declared.kind.BodyKind.{BodyKind}
use Rattle.cp_words.specs.declared.kind.BodyKind.TheVariants as kinds
use Rattle.cp_writing.specs.declared.arena.Capacity.{Capacity}
use Rattle.cp_tree.specs.Node.{element_size, element_count, Node, null, cap, struct, list, ptrs, structs, Nodes, no_nodes, node, Bodies, no_bodies, body, count, number_of}
use Rattle.cp_writing.specs.Packed.{packed}
use Rattle.cp_tree.specs.Shaped.{Shaped, EachShaped, EachEven}
use Rattle.cp_writing.specs.Sheets.{Written, put, append, end_of, with_segment_for, place_by, body_word, IsNamed}
use Rattle.cp_writing.specs.Writing.{body_blank, bodies_blank, struct_placed, ptrs_placed, structs_placed, tag_word, tree_by, row_by, bodies_by}
use Rattle.cp_writing.proofs.Sheets.{end-last, with_room_keeps, place-cases, capacity-goes}
use Rattle.cp_writing.proofs.Keeps.{spot, keeps_tree}
use Rattle.cp_writing.proofs.Laid.{few_elements}
use Rattle.cp_writing.proofs.FitWords.{zeros_fit, one_fits, append_fit, blank_fits, bodies_fit, tag_fits, packed_fit, body_word_fits, far_fits, Bounded, bounded_put, bounded_append, bounded_begin}

-- what holds of either, where it is chosen
by_size : (P : Written → Type 0) (n : ℕ) (F G : Written) → P F → (0 < n → P G) → P (if n == 0 then F else G)
by_size P n F G h k = ⊎_elim (λ z. rw (eq-eqb n 0 z) h) (λ nz. rw (ne_eqb n 0 nz) (k (omega (arith, nz)))) (cases_eq n 0)

module _ (capacity : Capacity) (few : capacity.segments ≤ 512) where
  bounded_place : (s p : ℕ) (k : BodyKind) (size : ℕ) (F : Written) → s ≤ length F.full → IsNamed k → Bounded F → Bounded (place_by capacity s p k size F).arena
  bounded_place s p k size F le named h =
      let G = with_segment_for capacity s size F in
      let g : Bounded G = with_room_keeps Bounded capacity s size F h (λ more. bounded_begin F (omega (arith, more, few)) h) in
      let there : s ≤ length G.full = omega (arith, le, capacity-goes capacity s size F) in
      let o = end_of G s - (p + 1) in
      let far = word_of (pointers.Far false (length G.last) (length G.full)) in
      place-cases (λ x. Bounded x.arena) s p k size G
      (λ direct. bounded_put G s p (body_word k o) there (λ within. body_word_fits k o named (omega (arith, within, g.counts s))) g)
      (λ some other. bounded_append (put s p far G) (body_word k 0 ∷ []) (one_fits (body_word k 0) (body_word_fits k 0 named (omega arith)))
      (bounded_put G s p far there (λ within. far_fits (length G.last) (length G.full) (omega (arith, within, g.counts (length G.full), end-last G)) (omega (arith, g.few))) g))

  row_goes : (ts : Nodes) (s p : ℕ) (F : Written) → EachShaped ts → s ≤ length F.full → length F.full ≤ length (row_by capacity s p ts F).full
  row_goes no_nodes s p F shaped le = omega arith
  row_goes (node t ts) s p F shaped le =
      let first = keeps_tree capacity t s p F shaped.0 le in
      omega (arith, first.goes, row_goes ts s (p + 1) (tree_by capacity s p t F) shaped.1 (omega (arith, le, first.goes)))

  mutual
    pub bounded_tree : (t : Node) (s p : ℕ) (F : Written) → Shaped t → s ≤ length F.full → Bounded F → Bounded (tree_by capacity s p t F)
    bounded_tree null s p F shaped le h = bounded_put F s p 0 le (λ within. omega arith) h
    bounded_tree (cap i) s p F shaped le h = bounded_put F s p (word_of (pointers.Cap i)) le (λ within. omega (arith, shaped)) h
    bounded_tree (struct ws ts) s p F shaped le h =
        let n = count ts in
        let k = kinds.Struct (length ws) n in
        let x = struct_placed capacity s p ws n F in
        let B = append (body_blank ws n) x.arena in
        by_size Bounded (length ws + n) _ _ (bounded_put F s p (word_of (pointers.Struct (negsuc 0) 0 0)) le (λ within. omega arith) h)
        (λ some. bounded_row ts x.at.segment (x.at.word + length ws) B shaped.2 (spot capacity s p k (length ws + n) F le).there
        (bounded_append x.arena (body_blank ws n) (blank_fits ws n shaped.1) (bounded_place s p k (length ws + n) F le (shaped.0.0, shaped.0.1, some) h)))
    bounded_tree (list es) s p F shaped le h =
        let k = kinds.List (element_size es) (element_count es) in
        let size = words_for (element_size es) (element_count es) in
        bounded_append (place_by capacity s p k size F).arena (packed es) (packed_fit es shaped) (bounded_place s p k size F le (few_elements es shaped) h)
    bounded_tree (ptrs ts) s p F shaped le h =
        let n = count ts in
        let k = kinds.List sizes.Pointer n in
        let x = ptrs_placed capacity s p n F in
        let xs = replicate {A = ℕ} n 0 in
        bounded_row ts x.at.segment (x.at.word + 0) (append xs x.arena) shaped.1 (spot capacity s p k n F le).there (bounded_append x.arena xs (zeros_fit n) (bounded_place s p k n F le shaped.0 h))
    bounded_tree (structs d n bs) s p F shaped le h =
        let m = number_of bs * (d + n) in
        let k = kinds.List sizes.Composite m in
        let x = structs_placed capacity s p d n (number_of bs) F in
        let tag = tag_word (number_of bs) d n in
        let fits = append_fit (tag ∷ []) (bodies_blank bs) (one_fits tag (tag_fits (number_of bs) d n shaped.1 shaped.0.0 shaped.0.1)) (bodies_fit d n bs shaped.3) in
        bounded_bodies bs x.at.segment (x.at.word + 1) d n (append (tag ∷ bodies_blank bs) x.arena) shaped.3 (spot capacity s p k (m + 1) F le).there
        (bounded_append x.arena (tag ∷ bodies_blank bs) fits (bounded_place s p k (m + 1) F le shaped.2 h))

    bounded_row : (ts : Nodes) (s p : ℕ) (F : Written) → EachShaped ts → s ≤ length F.full → Bounded F → Bounded (row_by capacity s p ts F)
    bounded_row no_nodes s p F shaped le h = h
    bounded_row (node t ts) s p F shaped le h =
        let M = tree_by capacity s p t F in
        bounded_row ts s (p + 1) M shaped.1 (omega (arith, le, (keeps_tree capacity t s p F shaped.0 le).goes)) (bounded_tree t s p F shaped.0 le h)

    bounded_bodies : (bs : Bodies) (s q d n : ℕ) (F : Written) → EachEven d n bs → s ≤ length F.full → Bounded F → Bounded (bodies_by capacity s q d n bs F)
    bounded_bodies no_bodies s q d n F even le h = h
    bounded_bodies (body ws ts bs) s q d n F even le h =
        let M = row_by capacity s (q + d) ts F in
        bounded_bodies bs s (q + d + n) d n M even.4 (omega (arith, le, row_goes ts s (q + d) F even.3 le)) (bounded_row ts s (q + d) F even.3 le h)
