-- Where no second segment may be begun, a tree is written into no more words than it costs.
use Rattle.std.proofs.Common.{◌≡◌, ℕ, ◌+◌, ◌-◌, ◌*◌, ◌≤◌, max, List, [], ◌∷◌, length, replicate, refl, sym, ◌∙◌, arith, negsuc}
use Rattle.std.proofs.lemmas.List.{length-replicate}
use Rattle.cp_words.specs.Limits.{Bounds}
use Rattle.cp_words.specs.Word.{word_of, words_for}
use Rattle.cp_words.specs.declared.pointer.ElementSize.TheVariants as sizes
use Rattle.cp_words.specs.declared.pointer.Pointer.TheVariants as pointers
use Rattle.cp_words.specs.declared.kind.BodyKind.{BodyKind}
use Rattle.cp_words.specs.declared.kind.BodyKind.TheVariants as kinds
use Rattle.cp_tree.specs.Node.{element_size, element_count, Node, null, cap, struct, list, ptrs, structs, Nodes, no_nodes, node, Bodies, no_bodies, body, count, number_of, cost, total_cost, body_cost}
use Rattle.cp_tree.specs.Shaped.{Shaped, EachShaped, EachEven}
use Rattle.cp_tree.specs.declared.fault.WriteFault.TheVariants as faults
use Rattle.cp_writing.specs.declared.arena.Capacity.{Capacity}
use Rattle.cp_writing.specs.LaidOut.{laid_out}
use Rattle.cp_writing.specs.Sheets.{Written, segments_of, put, append, end_of, body_word, Placed, with_segment_for, place_by}
use Rattle.cp_writing.specs.Writes.{IsWriteFaultOf}
use Rattle.cp_writing.specs.Writing.{body_blank, bodies_blank, tag_word, struct_placed, ptrs_placed, structs_placed, tree_by, row_by, bodies_by}
use Rattle.cp_writing.proofs.Keeps.{either, length-blank, length-bodies}
use Rattle.cp_writing.proofs.LaidOut.{laid_bounded, bounded_is_layout}
use Rattle.cp_writing.proofs.PackedHolds.{packed_length}
use Rattle.cp_writing.proofs.ArenaWords.{laid_words}
use Rattle.cp_writing.proofs.Sheets.{words-put, full-put, with_room_keeps, place-cases}

-- there is still one segment, and it has this many more words at most
abbrev Takes : Written → ℕ → Written → Type 0
Takes F n G = (length G.full ≡ 0) × (G.words ≤ F.words + n)

-- A body has its place in the one segment, and no word of it is written yet.
record IsPlaced (F : Written) (x : Placed) : Type 0 where
  alone : length x.arena.full ≡ 0
  counts : x.arena.words ≡ F.words
  there : x.at.segment ≡ 0

takes_put : (s p w n : ℕ) (F : Written) → length F.full ≡ 0 → Takes F n (put s p w F)
takes_put s p w n F alone = (full-put F s p w ∙ alone, omega (arith, words-put F s p w))

module _ (capacity : Capacity) (one : capacity.segments ≤ 1) where
  is_placed : (s p : ℕ) (k : BodyKind) (size : ℕ) (F : Written) → s ≡ 0 → length F.full ≡ 0 → IsPlaced F (place_by capacity s p k size F)
  is_placed s p k size F first alone =
      let G = with_segment_for capacity s size F in
      let g : (length G.full ≡ 0) × (G.words ≡ F.words) =
      with_room_keeps (λ H. (length H.full ≡ 0) × (H.words ≡ F.words)) capacity s size F (alone, refl) (λ more. absurd (omega (arith, more, one))) in
      let w = body_word k (end_of G s - (p + 1)) in
      place-cases (IsPlaced F) s p k size G
      (λ direct. record { alone = full-put G s p w ∙ g.0; counts = words-put G s p w ∙ g.1; there = first })
      (λ some other. absurd (other (first ∙ sym g.0)))

  -- a struct takes the words of its body, and what hangs on it
  takes_struct : (ws : List ℕ) (ts : Nodes) → ((s p : ℕ) (F : Written) → s ≡ 0 → length F.full ≡ 0 → Takes F (total_cost ts) (row_by capacity s p ts F))
      → (s p : ℕ) (F : Written) → s ≡ 0 → length F.full ≡ 0 → Takes F (length ws + count ts + total_cost ts) (tree_by capacity s p (struct ws ts) F)
  takes_struct ws ts row s p F first alone =
      let x = struct_placed capacity s p ws (count ts) F in
      let here = is_placed s p (kinds.Struct (length ws) (count ts)) (length ws + count ts) F first alone in
      let hung = row x.at.segment (x.at.word + length ws) (append (body_blank ws (count ts)) x.arena) here.there here.alone in
      either (Takes F (length ws + count ts + total_cost ts)) (length ws + count ts) _ _
      (takes_put s p (word_of (pointers.Struct (negsuc 0) 0 0)) (length ws + count ts + total_cost ts) F alone)
      (hung.0, omega (arith, hung.1, here.counts, length-blank ws (count ts)))

  mutual
    takes_tree : (t : Node) (s p : ℕ) (F : Written) → Shaped t → s ≡ 0 → length F.full ≡ 0 → Takes F (cost t) (tree_by capacity s p t F)
    takes_tree null s p F shaped first alone = takes_put s p 0 0 F alone
    takes_tree (cap i) s p F shaped first alone = takes_put s p (word_of (pointers.Cap i)) 0 F alone
    takes_tree (struct ws ts) s p F shaped first alone =
        let taken = takes_struct ws ts (λ s p F first alone. takes_row ts s p F shaped.2 first alone) s p F first alone in
        (taken.0, omega (arith, taken.1))
    takes_tree (list es) s p F shaped first alone =
        let size = words_for (element_size es) (element_count es) in
        let here = is_placed s p (kinds.List (element_size es) (element_count es)) size F first alone in
        (here.alone, omega (arith, here.counts, packed_length es))
    takes_tree (ptrs ts) s p F shaped first alone =
        let x = ptrs_placed capacity s p (count ts) F in
        let here = is_placed s p (kinds.List sizes.Pointer (count ts)) (count ts) F first alone in
        let hung = takes_row ts x.at.segment (x.at.word + 0) (append (replicate (count ts) 0) x.arena) shaped.1 here.there here.alone in
        (hung.0, omega (arith, hung.1, here.counts, length-replicate {A = ℕ} (count ts) 0))
    takes_tree (structs d n bs) s p F shaped first alone =
        let size = number_of bs * (d + n) in
        let x = structs_placed capacity s p d n (number_of bs) F in
        let ws = tag_word (number_of bs) d n ∷ bodies_blank bs in
        let here = is_placed s p (kinds.List sizes.Composite size) (size + 1) F first alone in
        let hung = takes_bodies bs x.at.segment (x.at.word + 1) d n (append ws x.arena) shaped.3 here.there here.alone in
        (hung.0, omega (arith, hung.1, here.counts, length-bodies d n bs shaped.3))

    takes_row : (ts : Nodes) (s p : ℕ) (F : Written) → EachShaped ts → s ≡ 0 → length F.full ≡ 0 → Takes F (total_cost ts) (row_by capacity s p ts F)
    takes_row no_nodes s p F shaped first alone = (alone, omega arith)
    takes_row (node t ts) s p F shaped first alone =
        let own = takes_tree t s p F shaped.0 first alone in
        let others = takes_row ts s (p + 1) (tree_by capacity s p t F) shaped.1 first own.0 in
        (others.0, omega (arith, own.1, others.1))

    takes_bodies : (bs : Bodies) (s q d n : ℕ) (F : Written) → EachEven d n bs → s ≡ 0 → length F.full ≡ 0 → Takes F (body_cost bs) (bodies_by capacity s q d n bs F)
    takes_bodies no_bodies s q d n F even first alone = (alone, omega arith)
    takes_bodies (body ws ts bs) s q d n F even first alone =
        let own = takes_row ts s (q + d) F even.3 first alone in
        let others = takes_bodies bs s (q + d + n) d n (row_by capacity s (q + d) ts F) even.4 first own.0 in
        (others.0, omega (arith, own.1, others.1))

  -- the word of the root's pointer is what a struct's body costs beside its words
  laid_struct : (ws : List ℕ) (ts : Nodes) → Shaped (struct ws ts) → (laid_out capacity (struct ws ts)).words ≤ cost (struct ws ts)
  laid_struct ws ts shaped =
      let taken = takes_struct ws ts (λ s p F first alone. takes_row ts s p F shaped.2 first alone) 0 0 (record { full = []; last = 0 ∷ []; words = 1 }) refl refl in
      omega (arith, taken.1)

-- In one segment a struct doesn't take too many words for a frame that may hold what it costs.
pub not_too_many : (limits : Bounds) (words : ℕ) (ws : List ℕ) (ts : Nodes) → limits.frame_words ≤ 67108864 → Shaped (struct ws ts) → cost (struct ws ts) ≤ limits.frame_words
    → IsWriteFaultOf limits (record { words = words; segments = 1 }) (struct ws ts) faults.TooManyWords → ⊥
not_too_many limits words ws ts small shaped cheap fault =
    let capacity : Capacity = record { words = max 1 words; segments = 1; whole = limits.frame_words } in
    let t = struct ws ts in
    let few = laid_struct capacity (omega arith) ws ts shaped in
    let layout = bounded_is_layout words 1 limits.frame_words t shaped (laid_bounded capacity t (omega arith) shaped) (omega (arith, few, cheap, small)) in
    omega (arith, fault.1 (segments_of (laid_out capacity t)) layout, laid_words capacity t, few, cheap)
