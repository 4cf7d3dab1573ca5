-- In segments of any size a tree is written into no more words than it costs, beside the word of its pointer; so it has a layout.
use Rattle.std.proofs.Common.{◌≡◌, ℕ, ◌+◌, ◌-◌, ◌*◌, ◌≤◌, max, List, [], ◌∷◌, length, replicate, false, refl, arith, negsuc}
use Rattle.std.proofs.lemmas.List.{length-replicate}
use Rattle.cp_words.specs.Limits.{Bounds, IsAllowed}
use Rattle.cp_words.specs.Word.{word_of, words_for}
use Rattle.cp_words.specs.declared.pointer.ElementSize.TheVariants as sizes
use Rattle.cp_words.specs.declared.pointer.Pointer.TheVariants as pointers
use Rattle.cp_words.specs.declared.kind.BodyKind.{BodyKind}
use Rattle.cp_words.specs.declared.kind.BodyKind.TheVariants as kinds
use Rattle.cp_tree.specs.Node.{element_size, element_count, Node, null, cap, struct, list, ptrs, structs, Nodes, no_nodes, node, Bodies, no_bodies, body, count, number_of, cost, total_cost, body_cost}
use Rattle.cp_tree.specs.Shaped.{Shaped, EachShaped, EachEven}
use Rattle.cp_writing.specs.declared.arena.Capacity.{Capacity}
use Rattle.cp_writing.specs.LaidOut.{laid_out}
use Rattle.cp_writing.specs.Layout.{Layout}
use Rattle.cp_writing.specs.Layout.{Capacity as Bound}
use Rattle.cp_writing.specs.Sheets.{Written, segments_of, append, end_of, body_word, with_segment_for, place_by}
use Rattle.cp_writing.specs.Writes.{FitsIn}
use Rattle.cp_writing.specs.Writing.{body_blank, bodies_blank, tag_word, struct_placed, ptrs_placed, structs_placed, tree_by, row_by, bodies_by}
use Rattle.cp_writing.proofs.Keeps.{either, length-blank, length-bodies}
use Rattle.cp_writing.proofs.LaidOut.{laid_bounded, bounded_is_layout}
use Rattle.cp_writing.proofs.PackedHolds.{packed_length}
use Rattle.cp_writing.proofs.Sheets.{words-put, with_room_keeps, place-cases}

-- at most this many words more are counted
abbrev IsMore : Written → ℕ → Written → Type 0
IsMore F n G = G.words ≤ F.words + n

module _ (capacity : Capacity) where
  -- a body's pointer and its landing pad
  placed_words : (s p : ℕ) (k : BodyKind) (size : ℕ) (F : Written) → IsMore F 1 (place_by capacity s p k size F).arena
  placed_words s p k size F =
      let G = with_segment_for capacity s size F in
      let same : G.words ≡ F.words = with_room_keeps (λ H. H.words ≡ F.words) capacity s size F refl (λ more. refl) in
      place-cases (λ x. IsMore F 1 x.arena) s p k size G
      (λ direct. omega (arith, words-put G s p (body_word k (end_of G s - (p + 1))), same))
      (λ some other. omega (arith, words-put G s p (word_of (pointers.Far false (length G.last) (length G.full))), same))

  struct_words : (ws : List ℕ) (ts : Nodes) → ((s p : ℕ) (F : Written) → IsMore F (total_cost ts) (row_by capacity s p ts F)) → (s p : ℕ) (F : Written) → IsMore F (cost (struct ws ts)) (tree_by capacity s p (struct ws ts) F)
  struct_words ws ts row s p F =
      let x = struct_placed capacity s p ws (count ts) F in
      let here = placed_words s p (kinds.Struct (length ws) (count ts)) (length ws + count ts) F in
      let hung = row x.at.segment (x.at.word + length ws) (append (body_blank ws (count ts)) x.arena) in
      either (IsMore F (cost (struct ws ts))) (length ws + count ts) _ _
      (omega (arith, words-put F s p (word_of (pointers.Struct (negsuc 0) 0 0))))
      (omega (arith, hung, here, length-blank ws (count ts)))

  mutual
    tree_words : (t : Node) (s p : ℕ) (F : Written) → Shaped t → IsMore F (cost t) (tree_by capacity s p t F)
    tree_words null s p F shaped = omega (arith, words-put F s p 0)
    tree_words (cap i) s p F shaped = omega (arith, words-put F s p (word_of (pointers.Cap i)))
    tree_words (struct ws ts) s p F shaped = struct_words ws ts (λ s p F. row_words ts s p F shaped.2) s p F
    tree_words (list es) s p F shaped =
        let size = words_for (element_size es) (element_count es) in
        let here = placed_words s p (kinds.List (element_size es) (element_count es)) size F in
        omega (arith, here, packed_length es)
    tree_words (ptrs ts) s p F shaped =
        let x = ptrs_placed capacity s p (count ts) F in
        let here = placed_words s p (kinds.List sizes.Pointer (count ts)) (count ts) F in
        let hung = row_words ts x.at.segment (x.at.word + 0) (append (replicate (count ts) 0) x.arena) shaped.1 in
        omega (arith, hung, here, length-replicate {A = ℕ} (count ts) 0)
    tree_words (structs d n bs) s p F shaped =
        let size = number_of bs * (d + n) in
        let x = structs_placed capacity s p d n (number_of bs) F in
        let ws = tag_word (number_of bs) d n ∷ bodies_blank bs in
        let here = placed_words s p (kinds.List sizes.Composite size) (size + 1) F in
        let hung = bodies_words bs x.at.segment (x.at.word + 1) d n (append ws x.arena) shaped.3 in
        omega (arith, hung, here, length-bodies d n bs shaped.3)

    row_words : (ts : Nodes) (s p : ℕ) (F : Written) → EachShaped ts → IsMore F (total_cost ts) (row_by capacity s p ts F)
    row_words no_nodes s p F shaped = omega arith
    row_words (node t ts) s p F shaped =
        let own = tree_words t s p F shaped.0 in
        let others = row_words ts s (p + 1) (tree_by capacity s p t F) shaped.1 in
        omega (arith, own, others)

    bodies_words : (bs : Bodies) (s q d n : ℕ) (F : Written) → EachEven d n bs → IsMore F (body_cost bs) (bodies_by capacity s q d n bs F)
    bodies_words no_bodies s q d n F even = omega arith
    bodies_words (body ws ts bs) s q d n F even =
        let own = row_words ts s (q + d) F even.3 in
        let others = bodies_words bs s (q + d + n) d n (row_by capacity s (q + d) ts F) even.4 in
        omega (arith, own, others)

-- a tree within the limits has a layout
pub has_layout : (limits : Bounds) (bound : Bound) (t : Node) → IsAllowed limits → bound.segments ≤ limits.segments → Shaped t → FitsIn limits t → (S : List (List ℕ)) × Layout S bound t
has_layout limits bound t allowed few shaped fits =
    let capacity : Capacity = record { words = max 1 bound.words; segments = bound.segments; whole = limits.frame_words } in
    let most = tree_words capacity t 0 0 (record { full = []; last = 0 ∷ []; words = 1 }) shaped in
    let bounded = laid_bounded capacity t (omega (arith, few, allowed.few)) shaped in (
      segments_of (laid_out capacity t),
      bounded_is_layout bound.words bound.segments limits.frame_words t shaped bounded (omega (arith, most, fits.1, allowed.holds, allowed.holds_little)),
    )
