-- What writing a tree leaves as it is.
use Rattle.std.proofs.Common.{◌≡◌, ℕ, zero, suc, ◌+◌, ◌*◌, ◌<◌, ◌≤◌, ◌⊎◌, ⊎_elim, List, [], ◌∷◌, length, replicate, refl, sym, ap, subst, ◌∙◌, arith}
use Rattle.std.specs.Prelude.{slice_index, ◌==◌, ◌-◌, false, negsuc, if◌then◌else◌}
use Rattle.std.proofs.Math.Nat.{suc-mul}
use Rattle.cp_words.specs.Word.{word_of, words_for}
use Rattle.cp_words.specs.declared.pointer.ElementSize.TheVariants as sizes
use Rattle.cp_words.specs.declared.pointer.Pointer.TheVariants as pointers
use Rattle.cp_words.specs.declared.kind.BodyKind.TheVariants as kinds
use Rattle.std.proofs.lemmas.Bool.{cases_eq, ne_eqb}
use Rattle.std.proofs.lemmas.List.{length-append, length-replicate, get_or_append_left, get_or-set_other}
use Rattle.cp_words.specs.declared.kind.BodyKind.{BodyKind}
use Rattle.cp_writing.specs.declared.arena.Capacity.{Capacity}
use Rattle.cp_tree.specs.Node.{Node, null, cap, struct, list, ptrs, structs, Nodes, no_nodes, node, Bodies, no_bodies, body, count, number_of, element_size, element_count}
use Rattle.cp_writing.specs.Packed.{packed}
use Rattle.cp_tree.specs.Shaped.{Shaped, EachShaped, EachEven}
use Rattle.cp_words.specs.declared.place.Place.{Place}
use Rattle.cp_writing.specs.declared.arena.Arena.{Arena}
use Rattle.cp_writing.specs.Sheets.{Written, Placed, IsWithin, written, put, append, begin, end_of, here, after_landing_pad, with_segment_for, place_by, place_on, body_word}
use Rattle.cp_writing.specs.Writing.{body_blank, bodies_blank, struct_placed, ptrs_placed, structs_placed, tag_word, tree_by, row_by, bodies_by}
use Rattle.cp_writing.proofs.Sheets.{seg, seg-last, seg-put_same, seg-put_other, seg-append_last, seg-append_other, seg-begin, end-put, end-last, end-begin, full-put, full-begin, words-put, last-put, with_room_keeps, capacity-goes, place-cases}

-- a word of what is written
abbrev pub at : Written → ℕ → ℕ → ℕ
at F s p = slice_index (seg F s) p

-- it is one of these pointer words
abbrev pub In : ℕ → ℕ → ℕ → ℕ → ℕ → Type 0
In b r s p n = (b ≡ s) × (p ≤ r) × (r < p + n)

-- More is written after what was. Of that only these pointer words change.
pub record Keeps (F : Written) (s p n : ℕ) (G : Written) : Type 0 where
  pub goes : length F.full ≤ length G.full
  pub ends : (b : ℕ) → end_of F b ≤ end_of G b
  pub ended : (b : ℕ) → b < length F.full → end_of G b ≡ end_of F b
  pub same : (b r : ℕ) → r < end_of F b → ¬ (In b r s p n) → at G b r ≡ at F b r
  pub counts : F.words ≤ G.words

pub keeps_nothing : (F : Written) (s p n : ℕ) → Keeps F s p n F
keeps_nothing F s p n = record { goes = omega arith; ends = λ b. omega arith; ended = λ b lt. refl; same = λ b r lt no. refl; counts = omega arith }

pub keeps_both : {F G H : Written} {s p n s1 p1 n1 s2 p2 n2 : ℕ} → Keeps F s1 p1 n1 G → Keeps G s2 p2 n2 H
    → ((b r : ℕ) → r < end_of F b → In b r s1 p1 n1 → In b r s p n) → ((b r : ℕ) → r < end_of F b → In b r s2 p2 n2 → In b r s p n) → Keeps F s p n H
keeps_both h k first second = record {
  goes = omega (arith, h.goes, k.goes);
  ends = λ b. omega (arith, h.ends b, k.ends b);
  ended = λ b lt. k.ended b (omega (arith, lt, h.goes)) ∙ h.ended b lt;
  same = λ b r lt no. k.same b r (omega (arith, lt, h.ends b)) (λ i. no (second b r lt i)) ∙ h.same b r lt (λ i. no (first b r lt i));
  counts = omega (arith, h.counts, k.counts);
}

pub keeps_put : (F : Written) (s p w : ℕ) → s ≤ length F.full → Keeps F s p 1 (put s p w F)
keeps_put F s p w le = record {
  goes = omega (arith, full-put F s p w);
  ends = λ b. omega (arith, end-put F s p w b le);
  ended = λ b lt. end-put F s p w b le;
  same = λ b r lt no. ⊎_elim
      (λ e. subst (λ t. at (put s p w F) t r ≡ at F t r) (sym e) (rw (seg-put_same F s p w le) (get_or-set_other (seg F s) p r w 0 (λ q. no (e, omega (arith, q), omega (arith, q))))))
      (λ n. ap (λ xs. slice_index xs r) (seg-put_other F s p w b le n))
      (cases_eq b s);
  counts = omega (arith, words-put F s p w);
}

pub keeps_append : (F : Written) (ws : List ℕ) (s p n : ℕ) → Keeps F s p n (append ws F)
keeps_append F ws s p n = record {
  goes = omega arith;
  ends = λ b. ⊎_elim
      (λ e. subst (λ t. end_of F t ≤ end_of (append ws F) t) (sym e) (omega (arith, ap length (seg-append_last F ws), length-append F.last ws, end-last F)))
      (λ m. omega (arith, ap length (seg-append_other F ws b m)))
      (cases_eq b (length F.full));
  ended = λ b lt. ap length (seg-append_other F ws b (λ e. omega (arith, e, lt)));
  same = λ b r lt no. ⊎_elim
      (λ e.
      let inside : r < length F.last = omega (arith, end-last F, lt, ap (end_of F) e) in
      ap (λ t. at (append ws F) t r) e ∙ ap (λ xs. slice_index xs r) (seg-append_last F ws) ∙ get_or_append_left F.last ws 0 r inside ∙ sym (ap (λ xs. slice_index xs r) (seg-last F)) ∙ sym (ap (λ t. at F t r) e))
      (λ m. ap (λ xs. slice_index xs r) (seg-append_other F ws b m))
      (cases_eq b (length F.full));
  counts = omega arith;
}

pub keeps_begin : (F : Written) (s p n : ℕ) → Keeps F s p n (begin F)
keeps_begin F s p n = record {
  goes = omega (arith, full-begin F);
  ends = λ b. omega (arith, end-begin F b);
  ended = λ b lt. end-begin F b;
  same = λ b r lt no. ap (λ xs. slice_index xs r) (seg-begin F b);
  counts = omega arith;
}

-- Where a body goes: after what its segment has, which is the last one unless the body has no words.
pub record Spot (F : Written) (s p size : ℕ) (x : Placed) : Type 0 where
  pub keeps : Keeps F s p 1 x.arena
  pub there : x.at.segment ≤ length x.arena.full
  pub end : x.at.word ≡ end_of x.arena x.at.segment
  pub last : 0 < size → x.at.segment ≡ length x.arena.full

keeps_room : (capacity : Capacity) (s p n size : ℕ) (F : Written) → Keeps F s p n (with_segment_for capacity s size F)
keeps_room capacity s p n size F = with_room_keeps (λ G. Keeps F s p n G) capacity s size F (keeps_nothing F s p n) (λ more. keeps_begin F s p n)

spot_here : (F G : Written) (s p : ℕ) (k : BodyKind) (size : ℕ) → Keeps F s p 1 G → s ≤ length G.full → (size ≡ 0) ⊎ (s ≡ length G.full) → Spot F s p size (here s p k G)
spot_here F G s p k size h le direct =
    let w = body_word k (end_of G s - (p + 1)) in
    record {
      keeps = keeps_both h (keeps_put G s p w le) (λ b r lt i. i) (λ b r lt i. i);
      there = omega (arith, full-put G s p w, le);
      end = sym (end-put G s p w s le);
      last = λ some. ⊎_elim (λ z. absurd (omega (arith, z, some))) (λ e. e ∙ sym (full-put G s p w)) direct;
    }

spot_after : (F G : Written) (s p : ℕ) (k : BodyKind) (size : ℕ) → Keeps F s p 1 G → s ≤ length G.full → Spot F s p size (after_landing_pad s p k G)
spot_after F G s p k size h le =
    let w = word_of (pointers.Far false (length G.last) (length G.full)) in
    let P = put s p w G in
    let landing_pad = body_word k 0 ∷ [] in
    let full = full-put G s p w in
    let end : end_of (append landing_pad P) (length P.full) ≡ length P.last + 1 = ap length (seg-append_last P landing_pad) ∙ length-append P.last landing_pad in
    record {
      keeps = keeps_both (keeps_both h (keeps_put G s p w le) (λ b r lt i. i) (λ b r lt i. i)) (keeps_append P landing_pad s p 1) (λ b r lt i. i) (λ b r lt i. i);
      there = omega (arith, full);
      end = subst (λ n. length G.last + 1 ≡ end_of (append landing_pad P) n) full (sym (end ∙ ap (λ n. n + 1) (last-put G s p w)));
      last = λ some. sym full;
    }

pub spot : (capacity : Capacity) (s p : ℕ) (k : BodyKind) (size : ℕ) (F : Written) → s ≤ length F.full → Spot F s p size (place_by capacity s p k size F)
spot capacity s p k size F le =
    let G = with_segment_for capacity s size F in
    let h = keeps_room capacity s p 1 size F in
    let there : s ≤ length G.full = omega (arith, le, capacity-goes capacity s size F) in
    place-cases (Spot F s p size) s p k size G (spot_here F G s p k size h there) (λ some other. spot_after F G s p k size h there)

-- where a body was placed is within what may be written
pub place_small : (old new : Arena) (name : Place) (k : BodyKind) (size : ℕ) (start : Place) → name.segment ≤ length (written old).full → written new ≡ (place_on old name k size).arena → IsWithin new → start ≡ (place_on old name k size).at
    → start.word ≤ 67108864
place_small old new name k size start le is keeps e =
    let there = spot old.capacity name.segment name.word k size (written old) le in
    let x = place_on old name k size in
    let word : start.word ≡ x.at.word = ap (λ (a : Place). a.word) e in
    let end : end_of (written new) start.segment ≡ end_of x.arena x.at.segment = ap (λ (F : Written). end_of F start.segment) is ∙ ap (λ (a : Place). end_of x.arena a.segment) e in
    omega (arith, word, there.end, end, keeps.3 start.segment, keeps.1, keeps.0)

-- a body of this many words lies where it was placed
pub record Lies (F : Written) (s p : ℕ) (xs : List ℕ) (x : Placed) : Type 0 where
  pub keeps : Keeps F s p 1 (append xs x.arena)
  pub there : x.at.segment ≤ length x.arena.full
  pub after : end_of F x.at.segment ≤ x.at.word
  pub inside : x.at.word + length xs ≤ end_of (append xs x.arena) x.at.segment

pub lies : (F : Written) (s p size : ℕ) (xs : List ℕ) (x : Placed) → Spot F s p size x → length xs ≡ size → Lies F s p xs x
lies F s p size xs x h long = record {
  keeps = keeps_both h.keeps (keeps_append x.arena xs s p 1) (λ b r lt i. i) (λ b r lt i. i);
  there = h.there;
  after = omega (arith, h.end, h.keeps.ends x.at.segment);
  inside = ⊎_elim
      (λ z. omega (arith, z, long, h.end, (keeps_append x.arena xs s p 1).ends x.at.segment))
      (λ nz.
      let e = h.last (omega (arith, nz)) in
      subst (λ n. x.at.word + length xs ≤ end_of (append xs x.arena) n) (sym e) (omega (arith, h.end, ap (end_of x.arena) e, end-last x.arena, ap length (seg-append_last x.arena xs), length-append x.arena.last xs)))
      (cases_eq size 0);
}

-- what hangs on pointers of a body is after what was there before
pub keeps_inner : {F G H : Written} {s p s' q n lo : ℕ} → Keeps F s p 1 G → Keeps G s' q n H → end_of F s' ≤ lo → lo ≤ q → Keeps F s p 1 H
keeps_inner {F} {G} {H} {s} {p} {s'} {q} {n} {lo} h k after le = keeps_both h k (λ b r lt i. i) (λ b r lt i. absurd (omega (arith, lt, ap (end_of F) i.0, i.1, after, le)))

-- words of bodies
pub length-blank : (ws : List ℕ) (n : ℕ) → length (body_blank ws n) ≡ length ws + n
length-blank ws n = length-append ws (replicate n 0) ∙ ap (λ m. length ws + m) (length-replicate n 0)

pub length-bodies : (d n : ℕ) (bs : Bodies) → EachEven d n bs → length (bodies_blank bs) ≡ number_of bs * (d + n)
length-bodies d n no_bodies even = omega arith
length-bodies d n (body ws ts bs) even =
    let rest = length-bodies d n bs even.4 in
    let product : suc (number_of bs) * (d + n) ≡ number_of bs * (d + n) + (d + n) = suc-mul (number_of bs) (d + n) in
    omega (arith, length-append (body_blank ws (count ts)) (bodies_blank bs), length-blank ws (count ts), even.0, even.1, rest, product)

-- what holds of either holds of the one that a size chooses
pub either : (P : Written → Type 0) (n : ℕ) (x y : Written) → P x → P y → P (if n == 0 then x else y)
either P zero x y h k = h
either P (suc n) x y h k = subst (λ b. P (if b then x else y)) (sym (ne_eqb (suc n) 0 (λ z. omega (arith, z)))) k

mutual
  pub keeps_tree : (capacity : Capacity) (t : Node) (s p : ℕ) (F : Written) → Shaped t → s ≤ length F.full → Keeps F s p 1 (tree_by capacity s p t F)
  keeps_tree capacity null s p F shaped le = keeps_put F s p 0 le
  keeps_tree capacity (cap i) s p F shaped le = keeps_put F s p (word_of (pointers.Cap i)) le
  keeps_tree capacity (struct ws ts) s p F shaped le =
      let x = struct_placed capacity s p ws (count ts) F in
      let xs = body_blank ws (count ts) in
      let l = lies F s p (length ws + count ts) xs x (spot capacity s p (kinds.Struct (length ws) (count ts)) (length ws + count ts) F le) (length-blank ws (count ts)) in
      either (λ G. Keeps F s p 1 G) (length ws + count ts) _ _ (keeps_put F s p (word_of (pointers.Struct (negsuc 0) 0 0)) le)
      (keeps_inner l.keeps (keeps_row capacity ts x.at.segment (x.at.word + length ws) (append xs x.arena) shaped.2 l.there (omega (arith, l.inside, length-blank ws (count ts)))) l.after (omega arith))
  keeps_tree capacity (list es) s p F shaped le =
      let x = place_by capacity s p (kinds.List (element_size es) (element_count es)) (words_for (element_size es) (element_count es)) F in
      keeps_both (spot capacity s p (kinds.List (element_size es) (element_count es)) (words_for (element_size es) (element_count es)) F le).keeps (keeps_append x.arena (packed es) s p 1) (λ b r lt i. i) (λ b r lt i. i)
  keeps_tree capacity (ptrs ts) s p F shaped le =
      let x = ptrs_placed capacity s p (count ts) F in
      let xs = replicate {A = ℕ} (count ts) 0 in
      let l = lies F s p (count ts) xs x (spot capacity s p (kinds.List sizes.Pointer (count ts)) (count ts) F le) (length-replicate {A = ℕ} (count ts) 0) in
      keeps_inner l.keeps (keeps_row capacity ts x.at.segment (x.at.word + 0) (append xs x.arena) shaped.1 l.there (omega (arith, l.inside, length-replicate {A = ℕ} (count ts) 0))) l.after (omega arith)
  keeps_tree capacity (structs d n bs) s p F shaped le =
      let x = structs_placed capacity s p d n (number_of bs) F in
      let xs = tag_word (number_of bs) d n ∷ bodies_blank bs in
      let long : length xs ≡ number_of bs * (d + n) + 1 = omega (arith, length-bodies d n bs shaped.3) in
      let l = lies F s p (number_of bs * (d + n) + 1) xs x (spot capacity s p (kinds.List sizes.Composite (number_of bs * (d + n))) (number_of bs * (d + n) + 1) F le) long in
      keeps_inner l.keeps (keeps_bodies capacity bs x.at.segment (x.at.word + 1) d n (append xs x.arena) shaped.3 l.there (omega (arith, l.inside, long))) l.after (omega arith)

  pub keeps_row : (capacity : Capacity) (ts : Nodes) (s p : ℕ) (F : Written) → EachShaped ts → s ≤ length F.full → p + count ts ≤ end_of F s → Keeps F s p (count ts) (row_by capacity s p ts F)
  keeps_row capacity no_nodes s p F shaped le inside = keeps_nothing F s p 0
  keeps_row capacity (node t ts) s p F shaped le inside =
      let first = keeps_tree capacity t s p F shaped.0 le in
      keeps_both first (keeps_row capacity ts s (p + 1) (tree_by capacity s p t F) shaped.1 (omega (arith, le, first.goes)) (omega (arith, inside, first.ends s)))
      (λ b r lt i. (i.0, i.1, omega (arith, i.2))) (λ b r lt i. (i.0, omega (arith, i.1), omega (arith, i.2)))

  pub keeps_bodies : (capacity : Capacity) (bs : Bodies) (s q d n : ℕ) (F : Written) → EachEven d n bs → s ≤ length F.full → q + number_of bs * (d + n) ≤ end_of F s → Keeps F s q (number_of bs * (d + n)) (bodies_by capacity s q d n bs F)
  keeps_bodies capacity no_bodies s q d n F even le inside = keeps_nothing F s q (0 * (d + n))
  keeps_bodies capacity (body ws ts bs) s q d n F even le inside =
      let product : suc (number_of bs) * (d + n) ≡ number_of bs * (d + n) + (d + n) = suc-mul (number_of bs) (d + n) in
      let first = keeps_row capacity ts s (q + d) F even.3 le (omega (arith, even.1, inside, product)) in
      let G = row_by capacity s (q + d) ts F in
      keeps_both first (keeps_bodies capacity bs s (q + d + n) d n G even.4 (omega (arith, le, first.goes)) (omega (arith, inside, product, first.ends s)))
      (λ b r lt i. (i.0, omega (arith, i.1), omega (arith, i.2, even.1, product))) (λ b r lt i. (i.0, omega (arith, i.1), omega (arith, i.2, product)))
