-- Words that fit 64 bits.
use Rattle.std.proofs.Common.{◌≡◌, ℕ, zero, suc, ◌+◌, ◌-◌, ◌^◌, ◌<◌, ◌≤◌, ⊎_elim, List, [], ◌∷◌, ◌++◌, length, replicate, get_or, set, sym, ap, subst, ◌∙◌, arith}
use Rattle.std.specs.Prelude.{slice_index, false}
use Rattle.std.proofs.lemmas.Bool.{cases_lt, cases_eq}
use Rattle.std.proofs.lemmas.List.{get_or_append_left, get_or-append-add, get_or-replicate, get_or_past, get_or-set_same, get_or-set_other, length-append, length-set, length-replicate}
use Rattle.std.proofs.lemmas.List.Elements.{All-get_or}
use Rattle.cp_words.specs.Word.{word_of, size_code}
use Rattle.cp_words.specs.declared.pointer.ElementSize.{ElementSize}
use Rattle.cp_words.specs.declared.pointer.ElementSize.TheVariants as sizes
use Rattle.cp_words.specs.declared.pointer.Pointer.TheVariants as pointers
use Rattle.cp_words.specs.declared.kind.BodyKind.{BodyKind}
use Rattle.cp_words.specs.declared.kind.BodyKind.TheVariants as kinds
use Rattle.cp_tree.specs.Node.{Elements, Bodies, no_bodies, body, count}
use Rattle.cp_writing.specs.Packed.{packed}
use Rattle.cp_tree.specs.Shaped.{AllFit, ElementsFit, EachEven}
use Rattle.cp_writing.specs.Sheets.{Written, put, append, begin, end_of, body_word, IsNamed}
use Rattle.cp_writing.specs.Writing.{body_blank, bodies_blank, tag_word}
use Rattle.cp_writing.proofs.Sheets.{seg, seg-last, seg-put_same, seg-put_other, seg-append_last, seg-append_other, seg-begin, end-put, end-last, end-begin, full-put, full-begin, words-put}
use Rattle.cp_writing.proofs.Keeps.{at}
use Rattle.cp_writing.proofs.PackedHolds.{packed_fits}

-- each word fits, and after the last there is none
abbrev pub WordsFit : List ℕ → Type 0
WordsFit ws = (i : ℕ) → get_or ws i 0 < 2 ^ 64

pub all_fit : (w : ℕ) (ns : List ℕ) → 0 < 2 ^ w → AllFit w ns → (i : ℕ) → get_or ns i 0 < 2 ^ w
all_fit w ns some fit i = ⊎_elim
    (λ lt. All-get_or (λ n. n < 2 ^ w) ns i 0 lt fit)
    (λ past. subst (λ n. n < 2 ^ w) (sym (get_or_past ns i 0 past)) some)
    (cases_lt i (length ns))

pub append_fit : (a b : List ℕ) → WordsFit a → WordsFit b → WordsFit (a ++ b)
append_fit a b ha hb i = ⊎_elim
    (λ lt. subst (λ n. n < 2 ^ 64) (sym (get_or_append_left a b 0 i lt)) (ha i))
    (λ past. subst (λ n. n < 2 ^ 64) (sym (ap (λ j. get_or (a ++ b) j 0) (omega (arith, past)) ∙ get_or-append-add a b (i - length a) 0)) (hb (i - length a)))
    (cases_lt i (length a))

pub zeros_fit : (n : ℕ) → WordsFit (replicate n 0)
zeros_fit n i = ⊎_elim
    (λ lt. omega (arith, get_or-replicate {A = ℕ} n i 0 0 lt))
    (λ past. omega (arith, get_or_past (replicate {A = ℕ} n 0) i 0 (omega (arith, past, length-replicate {A = ℕ} n 0))))
    (cases_lt i n)

pub one_fits : (w : ℕ) → w < 2 ^ 64 → WordsFit (w ∷ [])
one_fits w small zero = small
one_fits w small (suc i) = omega arith

-- words of bodies
pub blank_fits : (ws : List ℕ) (n : ℕ) → AllFit 64 ws → WordsFit (body_blank ws n)
blank_fits ws n fit = append_fit ws (replicate n 0) (all_fit 64 ws (omega arith) fit) (zeros_fit n)

pub bodies_fit : (d n : ℕ) (bs : Bodies) → EachEven d n bs → WordsFit (bodies_blank bs)
bodies_fit d n no_bodies even = λ i. omega arith
bodies_fit d n (body ws ts bs) even = append_fit (body_blank ws (count ts)) (bodies_blank bs) (blank_fits ws (count ts) even.2) (bodies_fit d n bs even.4)

pub tag_fits : (k d n : ℕ) → k < 2 ^ 30 → d < 2 ^ 16 → n < 2 ^ 16 → tag_word k d n < 2 ^ 64
tag_fits k d n a b c = omega (arith, a, b, c)

pub packed_fit : (es : Elements) → ElementsFit es → WordsFit (packed es)
packed_fit es fit = all_fit 64 (packed es) (omega arith) (packed_fits es fit)

-- words of pointers
code_below : (size : ElementSize) → size_code size < 8
code_below sizes.Void = omega arith
code_below sizes.Bit = omega arith
code_below sizes.Byte = omega arith
code_below sizes.TwoBytes = omega arith
code_below sizes.FourBytes = omega arith
code_below sizes.EightBytes = omega arith
code_below sizes.Pointer = omega arith
code_below sizes.Composite = omega arith

pub body_word_fits : (k : BodyKind) (o : ℕ) → IsNamed k → o < 2 ^ 29 → body_word k o < 2 ^ 64
body_word_fits (kinds.Struct d n) o named near = omega (arith, named.0, named.1, near)
body_word_fits (kinds.List size n) o named near = omega (arith, named, near, code_below size)

pub far_fits : (place s : ℕ) → place < 2 ^ 29 → s < 2 ^ 32 → word_of (pointers.Far false place s) < 2 ^ 64
far_fits place s a b = omega (arith, a, b)

-- No segment has more words than are counted, and each word fits where they are no more than a message may have.
pub record Bounded (F : Written) : Type 0 where
  pub counts : (b : ℕ) → end_of F b ≤ F.words
  pub few : length F.full < 512
  pub fit : F.words ≤ 134217728 → (b r : ℕ) → at F b r < 2 ^ 64

-- a word that was set, or that isn't there
set_fits : (xs : List ℕ) (p w r : ℕ) → w < 2 ^ 64 → r ≡ p → get_or (set xs p w) r 0 < 2 ^ 64
set_fits xs p w r small e = ⊎_elim
    (λ lt. subst (λ i. get_or (set xs p w) i 0 < 2 ^ 64) (sym e) (subst (λ n. n < 2 ^ 64) (sym (get_or-set_same xs p w 0 lt)) small))
    (λ past. omega (arith, get_or_past (set xs p w) r 0 (omega (arith, past, e, length-set xs p w))))
    (cases_lt p (length xs))

pub bounded_put : (F : Written) (s p w : ℕ) → s ≤ length F.full → (F.words ≤ 134217728 → w < 2 ^ 64) → Bounded F → Bounded (put s p w F)
bounded_put F s p w le small h = record {
  counts = λ b. omega (arith, h.counts b, end-put F s p w b le, words-put F s p w);
  few = omega (arith, h.few, full-put F s p w);
  fit = λ within b r.
      let capacity : F.words ≤ 134217728 = omega (arith, within, words-put F s p w) in
      ⊎_elim
      (λ e. subst (λ t. at (put s p w F) t r < 2 ^ 64) (sym e) (subst (λ xs. slice_index xs r < 2 ^ 64) (sym (seg-put_same F s p w le)) (⊎_elim
      (λ q. set_fits (seg F s) p w r (small capacity) q)
      (λ q. subst (λ n. n < 2 ^ 64) (sym (get_or-set_other (seg F s) p r w 0 q)) (h.fit capacity s r))
      (cases_eq r p))))
      (λ n. subst (λ xs. slice_index xs r < 2 ^ 64) (sym (seg-put_other F s p w b le n)) (h.fit capacity b r))
      (cases_eq b s);
}

pub bounded_append : (F : Written) (ws : List ℕ) → WordsFit ws → Bounded F → Bounded (append ws F)
bounded_append F ws fits h = record {
  counts = λ b. ⊎_elim
      (λ e. subst (λ t. end_of (append ws F) t ≤ F.words + length ws) (sym e) (omega (arith, ap length (seg-append_last F ws), length-append F.last ws, end-last F, h.counts (length F.full))))
      (λ n. omega (arith, ap length (seg-append_other F ws b n), h.counts b))
      (cases_eq b (length F.full));
  few = h.few;
  fit = λ within b r.
      let capacity : F.words ≤ 134217728 = omega (arith, within) in
      ⊎_elim
      (λ e. subst (λ t. at (append ws F) t r < 2 ^ 64) (sym e) (subst (λ xs. slice_index xs r < 2 ^ 64) (sym (seg-append_last F ws))
      (append_fit F.last ws (λ i. subst (λ xs. slice_index xs i < 2 ^ 64) (seg-last F) (h.fit capacity (length F.full) i)) fits r)))
      (λ n. subst (λ xs. slice_index xs r < 2 ^ 64) (sym (seg-append_other F ws b n)) (h.fit capacity b r))
      (cases_eq b (length F.full));
}

pub bounded_begin : (F : Written) → length F.full + 1 < 512 → Bounded F → Bounded (begin F)
bounded_begin F more h = record {
  counts = λ b. omega (arith, h.counts b, end-begin F b);
  few = omega (arith, more, full-begin F);
  fit = λ within b r. subst (λ xs. slice_index xs r < 2 ^ 64) (sym (seg-begin F b)) (h.fit within b r);
}
