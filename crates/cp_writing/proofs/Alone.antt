-- Where no second segment may be begun, there is one.
use Rattle.std.proofs.Common.{◌≡◌, ℕ, ◌+◌, ◌*◌, ◌≤◌, [], ◌∷◌, ◌++◌, length, sym, ap, ◌∙◌, arith, negsuc}
use Rattle.std.proofs.lemmas.List.{nil_from_length}
use Rattle.cp_words.specs.Word.{word_of, words_for}
use Rattle.cp_words.specs.declared.pointer.ElementSize.TheVariants as sizes
use Rattle.cp_words.specs.declared.pointer.Pointer.TheVariants as pointers
use Rattle.cp_words.specs.declared.kind.BodyKind.{BodyKind}
use Rattle.cp_words.specs.declared.kind.BodyKind.TheVariants as kinds
use Rattle.cp_writing.specs.declared.arena.Capacity.{Capacity}
use Rattle.cp_tree.specs.Node.{element_size, element_count, Node, null, cap, struct, list, ptrs, structs, Nodes, no_nodes, node, Bodies, no_bodies, body, count, number_of}
use Rattle.cp_writing.specs.Sheets.{Written, segments_of, place_by, with_segment_for}
use Rattle.cp_writing.specs.Writing.{tree_by, row_by, bodies_by, struct_begun, ptrs_begun, structs_begun, bodies_blank}
use Rattle.cp_writing.proofs.Sheets.{full-put, with_room_keeps, place-cases}
use Rattle.cp_writing.proofs.Keeps.{either}

abbrev pub Alone : Written → Type 0
Alone F = length F.full ≡ 0

module _ (capacity : Capacity) (one : capacity.segments ≤ 1) where
  alone_place : (s p : ℕ) (k : BodyKind) (size : ℕ) (F : Written) → Alone F → Alone (place_by capacity s p k size F).arena
  alone_place s p k size F h =
      let G = with_segment_for capacity s size F in
      let g : Alone G = with_room_keeps Alone capacity s size F h (λ more. absurd (omega (arith, more, one))) in
      place-cases (λ x. Alone x.arena) s p k size G (λ direct. full-put G s p _ ∙ g) (λ some other. full-put G s p _ ∙ g)

  mutual
    alone_tree : (t : Node) (s p : ℕ) (F : Written) → Alone F → Alone (tree_by capacity s p t F)
    alone_tree null s p F h = full-put F s p 0 ∙ h
    alone_tree (cap i) s p F h = full-put F s p (word_of (pointers.Cap i)) ∙ h
    alone_tree (struct ws ts) s p F h =
        let x = struct_begun capacity s p ws (count ts) F in
        either Alone (length ws + count ts) _ _ (full-put F s p (word_of (pointers.Struct (negsuc 0) 0 0)) ∙ h) (alone_row ts x.at.segment x.at.word x.arena (alone_place s p (kinds.Struct (length ws) (count ts)) (length ws + count ts) F h))
    alone_tree (list es) s p F h = alone_place s p (kinds.List (element_size es) (element_count es)) (words_for (element_size es) (element_count es)) F h
    alone_tree (ptrs ts) s p F h =
        let x = ptrs_begun capacity s p (count ts) F in
        alone_row ts x.at.segment x.at.word x.arena (alone_place s p (kinds.List sizes.Pointer (count ts)) (count ts) F h)
    alone_tree (structs d n bs) s p F h =
        let x = structs_begun capacity s p d n (number_of bs) (bodies_blank bs) F in
        alone_bodies bs x.at.segment x.at.word d n x.arena (alone_place s p (kinds.List sizes.Composite (number_of bs * (d + n))) (number_of bs * (d + n) + 1) F h)

    alone_row : (ts : Nodes) (s p : ℕ) (F : Written) → Alone F → Alone (row_by capacity s p ts F)
    alone_row no_nodes s p F h = h
    alone_row (node t ts) s p F h = alone_row ts s (p + 1) (tree_by capacity s p t F) (alone_tree t s p F h)

    alone_bodies : (bs : Bodies) (s q d n : ℕ) (F : Written) → Alone F → Alone (bodies_by capacity s q d n bs F)
    alone_bodies no_bodies s q d n F h = h
    alone_bodies (body ws ts bs) s q d n F h = alone_bodies bs s (q + d + n) d n (row_by capacity s (q + d) ts F) (alone_row ts s (q + d) F h)

  pub alone_lists : (t : Node) (s p : ℕ) (F : Written) → Alone F → (tree_by capacity s p t F).last ∷ [] ≡ segments_of (tree_by capacity s p t F)
  alone_lists t s p F h = sym (ap (λ xs. xs ++ (tree_by capacity s p t F).last ∷ []) (nil_from_length (tree_by capacity s p t F).full (alone_tree t s p F h)))
