-- Where no second segment may be begun, it doesn't matter how many words one may have.
use Rattle.std.proofs.Common.{◌≡◌, ℕ, ◌+◌, ◌*◌, ◌≤◌, length, replicate, ◌∷◌, ap, refl, sym, ◌∙◌, arith, negsuc}
use Rattle.std.specs.Prelude.{◌==◌, if◌then◌else◌}
use Rattle.cp_words.specs.Word.{word_of, words_for}
use Rattle.cp_words.specs.declared.pointer.ElementSize.TheVariants as sizes
use Rattle.cp_words.specs.declared.pointer.Pointer.TheVariants as pointers
use Rattle.cp_words.specs.declared.kind.BodyKind.{BodyKind}
use Rattle.cp_words.specs.declared.kind.BodyKind.TheVariants as kinds
use Rattle.cp_writing.specs.declared.arena.Capacity.{Capacity}
use Rattle.cp_tree.specs.Node.{element_size, element_count, Node, null, cap, struct, list, ptrs, structs, Nodes, no_nodes, node, Bodies, no_bodies, body, count, number_of}
use Rattle.cp_writing.specs.Packed.{packed}
use Rattle.cp_writing.specs.Sheets.{Written, Placed, put, append, with_segment_for, place_in, place_by}
use Rattle.cp_writing.specs.Writing.{body_blank, bodies_blank, tag_word, struct_placed, ptrs_placed, structs_placed, tree_by, row_by, bodies_by}
use Rattle.cp_writing.proofs.Sheets.{with_room_keeps}

module _ (a b : Capacity) (one : a.segments ≤ 1) (other : b.segments ≤ 1) where
  same_place : (s p : ℕ) (k : BodyKind) (size : ℕ) (F : Written) → place_by a s p k size F ≡ place_by b s p k size F
  same_place s p k size F =
      let stays : (capacity : Capacity) → capacity.segments ≤ 1 → with_segment_for capacity s size F ≡ F = λ capacity few. with_room_keeps (λ G. G ≡ F) capacity s size F refl (λ more. absurd (omega (arith, more, few))) in
      ap (place_in s p k size) (stays a one ∙ sym (stays b other))

  mutual
    pub same_tree : (t : Node) (s p : ℕ) (F : Written) → tree_by a s p t F ≡ tree_by b s p t F
    same_tree null s p F = refl
    same_tree (cap i) s p F = refl
    same_tree (struct ws ts) s p F =
        let n = count ts in
        let empty = put s p (word_of (pointers.Struct (negsuc 0) 0 0)) F in
        let x = struct_placed b s p ws n F in
        ap (λ (y : Placed). if length ws + n == 0 then empty else row_by a y.at.segment (y.at.word + length ws) ts (append (body_blank ws n) y.arena)) (same_place s p (kinds.Struct (length ws) n) (length ws + n) F)
        ∙ ap (λ G. if length ws + n == 0 then empty else G) (same_row ts x.at.segment (x.at.word + length ws) (append (body_blank ws n) x.arena))
    same_tree (list es) s p F = ap (λ (y : Placed). append (packed es) y.arena) (same_place s p (kinds.List (element_size es) (element_count es)) (words_for (element_size es) (element_count es)) F)
    same_tree (ptrs ts) s p F =
        let n = count ts in
        let x = ptrs_placed b s p n F in
        ap (λ (y : Placed). row_by a y.at.segment (y.at.word + 0) ts (append (replicate n 0) y.arena)) (same_place s p (kinds.List sizes.Pointer n) n F)
        ∙ same_row ts x.at.segment (x.at.word + 0) (append (replicate n 0) x.arena)
    same_tree (structs d n bs) s p F =
        let m = number_of bs * (d + n) in
        let xs = tag_word (number_of bs) d n ∷ bodies_blank bs in
        let x = structs_placed b s p d n (number_of bs) F in
        ap (λ (y : Placed). bodies_by a y.at.segment (y.at.word + 1) d n bs (append xs y.arena)) (same_place s p (kinds.List sizes.Composite m) (m + 1) F)
        ∙ same_bodies bs x.at.segment (x.at.word + 1) d n (append xs x.arena)

    pub same_row : (ts : Nodes) (s p : ℕ) (F : Written) → row_by a s p ts F ≡ row_by b s p ts F
    same_row no_nodes s p F = refl
    same_row (node t ts) s p F = ap (row_by a s (p + 1) ts) (same_tree t s p F) ∙ same_row ts s (p + 1) (tree_by b s p t F)

    pub same_bodies : (bs : Bodies) (s q d n : ℕ) (F : Written) → bodies_by a s q d n bs F ≡ bodies_by b s q d n bs F
    same_bodies no_bodies s q d n F = refl
    same_bodies (body ws ts bs) s q d n F = ap (bodies_by a s (q + d + n) d n bs) (same_row ts s (q + d) F) ∙ same_bodies bs s (q + d + n) d n (row_by b s (q + d) ts F)
