-- How many words and segments a tree is written into.
use Rattle.std.proofs.Common.{◌≡◌, ℕ, zero, suc, ◌+◌, ◌*◌, ◌<◌, ◌≤◌, max, List, [], ◌∷◌, ◌++◌, length, map, set, get_or, replicate, refl, sym, ap, subst, ◌∙◌, ⊎_elim, arith}
use Rattle.std.specs.Prelude.{sum, negsuc}
use Rattle.std.proofs.lemmas.Bool.{cases_eq}
use Rattle.std.proofs.lemmas.List.{length-set, length-append, length_push, map_push}
use Rattle.std.proofs.lemmas.List.Sums.{sum_by_push}
use Rattle.cp_words.specs.Word.{word_of, words_for}
use Rattle.cp_words.specs.declared.pointer.ElementSize.TheVariants as sizes
use Rattle.cp_words.specs.declared.pointer.Pointer.TheVariants as pointers
use Rattle.cp_words.specs.declared.kind.BodyKind.{BodyKind}
use Rattle.cp_words.specs.declared.kind.BodyKind.TheVariants as kinds
use Rattle.cp_writing.specs.declared.arena.Capacity.{Capacity}
use Rattle.cp_tree.specs.Node.{Node, null, cap, struct, list, ptrs, structs, Nodes, no_nodes, node, Bodies, no_bodies, body, count, number_of, element_size, element_count}
use Rattle.cp_writing.specs.Packed.{packed}
use Rattle.cp_writing.specs.Sheets.{Written, segments_of, put, append, begin, with_segment_for, place_by, body_word}
use Rattle.cp_writing.specs.LaidOut.{laid_out}
use Rattle.cp_writing.specs.Writing.{body_blank, bodies_blank, tag_word, struct_placed, ptrs_placed, structs_placed, tree_by, row_by, bodies_by}
use Rattle.cp_writing.proofs.Keeps.{either}
use Rattle.cp_writing.proofs.Sheets.{put-here, put-there, full-put, full-begin, with_room_keeps, place-cases}

-- A step of writing keeps what holds of what is written: a word that is set, words that are appended, and a new segment
-- where one may be begun.
pub record IsKept (capacity : Capacity) (P : Written → Type 0) : Type 0 where
  pub puts : (s p w : ℕ) (F : Written) → P F → P (put s p w F)
  pub appends : (ws : List ℕ) (F : Written) → P F → P (append ws F)
  pub begins : (F : Written) → length F.full + 1 < capacity.segments → P F → P (begin F)

module _ (capacity : Capacity) (P : Written → Type 0) (kept : IsKept capacity P) where
  placed : (s p : ℕ) (k : BodyKind) (size : ℕ) (F : Written) → P F → P (place_by capacity s p k size F).arena
  placed s p k size F h =
      let G = with_segment_for capacity s size F in
      let g : P G = with_room_keeps P capacity s size F h (λ more. kept.begins F more h) in
      place-cases (λ x. P x.arena) s p k size G (λ direct. kept.puts s p _ G g) (λ some other. kept.appends (body_word k 0 ∷ []) _ (kept.puts s p _ G g))

  mutual
    -- what each step keeps, writing a tree keeps
    pub tree_keeps : (t : Node) (s p : ℕ) (F : Written) → P F → P (tree_by capacity s p t F)
    tree_keeps null s p F h = kept.puts s p 0 F h
    tree_keeps (cap i) s p F h = kept.puts s p (word_of (pointers.Cap i)) F h
    tree_keeps (struct ws ts) s p F h =
        let x = struct_placed capacity s p ws (count ts) F in
        either P (length ws + count ts) _ _ (kept.puts s p (word_of (pointers.Struct (negsuc 0) 0 0)) F h)
        (row_keeps ts x.at.segment (x.at.word + length ws) (append (body_blank ws (count ts)) x.arena) (kept.appends (body_blank ws (count ts)) x.arena (placed s p (kinds.Struct (length ws) (count ts)) (length ws + count ts) F h)))
    tree_keeps (list es) s p F h = kept.appends (packed es) _ (placed s p (kinds.List (element_size es) (element_count es)) (words_for (element_size es) (element_count es)) F h)
    tree_keeps (ptrs ts) s p F h =
        let x = ptrs_placed capacity s p (count ts) F in
        row_keeps ts x.at.segment (x.at.word + 0) (append (replicate (count ts) 0) x.arena) (kept.appends (replicate (count ts) 0) x.arena (placed s p (kinds.List sizes.Pointer (count ts)) (count ts) F h))
    tree_keeps (structs d n bs) s p F h =
        let x = structs_placed capacity s p d n (number_of bs) F in
        let ws = tag_word (number_of bs) d n ∷ bodies_blank bs in
        bodies_keep bs d n x.at.segment (x.at.word + 1) (append ws x.arena) (kept.appends ws x.arena (placed s p (kinds.List sizes.Composite (number_of bs * (d + n))) (number_of bs * (d + n) + 1) F h))

    row_keeps : (ts : Nodes) (s p : ℕ) (F : Written) → P F → P (row_by capacity s p ts F)
    row_keeps no_nodes s p F h = h
    row_keeps (node t ts) s p F h = row_keeps ts s (p + 1) (tree_by capacity s p t F) (tree_keeps t s p F h)

    bodies_keep : (bs : Bodies) (d n s q : ℕ) (F : Written) → P F → P (bodies_by capacity s q d n bs F)
    bodies_keep no_bodies d n s q F h = h
    bodies_keep (body ws ts bs) d n s q F h = bodies_keep bs d n s (q + d + n) (row_by capacity s (q + d) ts F) (row_keeps ts s (q + d) F h)

-- each word of a segment is counted
abbrev pub IsCounted : Written → Type 0
IsCounted F = F.words ≡ sum (map length (segments_of F))

lengths : (xs : List (List ℕ)) (x : List ℕ) → sum (map length (xs ++ x ∷ [])) ≡ sum (map length xs) + length x
lengths xs x = ap sum (map_push length xs x) ∙ sum_by_push (λ n. n) (map length xs) (length x)

lengths-set : (xs : List (List ℕ)) (s p w : ℕ) → map length (set xs s (set (get_or xs s []) p w)) ≡ map length xs
lengths-set [] s p w = refl
lengths-set (x ∷ xs) zero p w = ap (λ n. n ∷ map length xs) (length-set x p w)
lengths-set (x ∷ xs) (suc s) p w = ap (λ ns. length x ∷ ns) (lengths-set xs s p w)

counted_put : (s p w : ℕ) (F : Written) → IsCounted F → IsCounted (put s p w F)
counted_put s p w F h = ⊎_elim
    (λ e. subst (λ t. IsCounted (put t p w F)) (sym e) (rw (put-here F p w) (h ∙ lengths F.full F.last ∙ ap (λ n. sum (map length F.full) + n) (sym (length-set F.last p w)) ∙ sym (lengths F.full (set F.last p w)))))
    (λ other.
    let there = set F.full s (set (get_or F.full s []) p w) in
    rw (put-there F s p w other) (h ∙ lengths F.full F.last ∙ ap (λ ns. sum ns + length F.last) (sym (lengths-set F.full s p w)) ∙ sym (lengths there F.last)))
    (cases_eq s (length F.full))

counted : (capacity : Capacity) → IsKept capacity IsCounted
counted capacity = record {
  puts = counted_put;
  appends = λ ws F h. omega (arith, h, lengths F.full F.last, lengths F.full (F.last ++ ws), length-append F.last ws);
  begins = λ F more h. omega (arith, h, lengths (F.full ++ F.last ∷ []) []);
}

-- no more segments than there may be
abbrev pub IsFew : Capacity → Written → Type 0
IsFew capacity F = length (segments_of F) ≤ max 1 capacity.segments

few : (capacity : Capacity) → IsKept capacity (IsFew capacity)
few capacity = record {
  puts = λ s p w F h. omega (arith, h, length_push F.full F.last, length_push (put s p w F).full (put s p w F).last, full-put F s p w);
  appends = λ ws F h. omega (arith, h, length_push F.full F.last, length_push F.full (F.last ++ ws));
  begins = λ F more h. omega (arith, more, length_push (begin F).full (begin F).last, full-begin F);
}

-- the words that a tree is written as are counted
pub laid_words : (capacity : Capacity) (t : Node) → (laid_out capacity t).words ≡ sum (map length (segments_of (laid_out capacity t)))
laid_words capacity t = tree_keeps capacity IsCounted (counted capacity) t 0 0 _ refl

-- its segments are no more than there may be, or one
pub laid_segments : (capacity : Capacity) (t : Node) → length (segments_of (laid_out capacity t)) ≤ max 1 capacity.segments
laid_segments capacity t = tree_keeps capacity (IsFew capacity) (few capacity) t 0 0 _ (omega arith)

pub laid_within : (capacity : Capacity) (t : Node) → 0 < capacity.segments → length (segments_of (laid_out capacity t)) ≤ capacity.segments
laid_within capacity t some = omega (arith, laid_segments capacity t, some)
